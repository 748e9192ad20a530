use Rattle.std.proofs.Common.{◌≡◌, ◌∙◌, ◌++◌, length, ap, refl, subst}
use Rattle.std.specs.Io.KnownBytes.{Appends}
use Rattle.journal_text.specs.Journal.{begun, ended_line, journal_of}
use Rattle.journal_text.specs.Table.{text_of}
use Rattle.journal_text.specs.declared.line.JournalLine.TheVariants.{Steps}
use Rattle.journal_text.specs.declared.version.Version.TheVariants.{Two}
use Rattle.journal_text.proofs.Written.{lines_of_two}
use Rattle.streams.specs.Part.{AppendsPart}
use Rattle.streams.specs.Waiting.{IsTextWritten}
use Rattle.streams.proofs.Parts.{part_of_more}
use Rattle.streams.proofs.Waiting.{broken, finished, gathered, passed}
use Rattle.journal_text.proofs.writer.write_journal.Goals as goal
use Rattle.journal_text.proofs.writer.write_journal.Goals.{After-push_ended_line}

-- the whole text is written, but for what waits with the last line
made : (g : _) (c : goal.After-push_ended_line g) → IsTextWritten (g.W.CountedWrite.contents c.args.writer.now) (g.W.CountedWrite.contents c.make_room_for_line.new.writer)
    c.push_ended_line.new.text.items (journal_of Two c.args.session.now.kept)
made g c =
    let kept = c.args.session.now.kept in
    let old = g.W.CountedWrite.contents c.args.writer.now in
    let first = g.W.CountedWrite.contents c.write_entries.new.writer in
    let mid = g.W.CountedWrite.contents c.make_room_for_line.new.writer in
    let room = c.make_room_for_line.new.text.items in
    let line = ended_line (text_of (Steps (length kept))) in
    let count : c.push_ended_line.new.text.items ≡ room ++ line = c.push_ended_line.ensures.items ∙ ap (λ n. room ++ ended_line (text_of (Steps n))) c.len.ensures.len in
    gathered old mid room c.push_ended_line.new.text.items line (begun Two kept) (journal_of Two kept) count refl
    (passed old first mid c.write_entries.new.text.items room (begun Two kept) c.in_ok-write_entries.ensures.written c.in_ok-make_room_for_line.ensures.written)

pub returns-clause-text : goal.returns-clause-text
returns-clause-text g c =
    finished _ _ _ c.push_ended_line.new.text.items _ (made g (goal.at.returns-clause-text g c).After-push_ended_line)
    (subst (Appends _ _) c.as_slice.ensures.value c.in_ok-write_all_within.ensures.bytes)

pub returns-clause-lines : goal.returns-clause-lines
returns-clause-lines g c = λ answers.
    lines_of_two g.E.Engine.act c.args.session.now.opening c.args.session.now.kept answers c.len.ensures.sound.legal c.in_ok-write_entries.ensures.fit

pub returns-in_err-make_room_for_line-clause-part : goal.returns-in_err-make_room_for_line-clause-part
returns-in_err-make_room_for_line-clause-part g c = λ failed.
    part_of_more _ _ (begun Two c.args.session.now.kept) _
    (broken _ _ _ c.write_entries.new.text.items _ c.in_ok-write_entries.ensures.written c.in_err-make_room_for_line.ensures.part)

pub returns-in_err-write_all_within-clause-part : goal.returns-in_err-write_all_within-clause-part
returns-in_err-write_all_within-clause-part g c = λ failed.
    broken _ _ _ c.push_ended_line.new.text.items _ (made g (goal.at.returns-in_err-write_all_within-clause-part g c).After-push_ended_line)
    (subst (AppendsPart _ _) c.as_slice.ensures.value c.in_err-write_all_within.ensures.part)
