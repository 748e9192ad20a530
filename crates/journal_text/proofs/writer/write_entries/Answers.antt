use Rattle.std.proofs.lemmas.Grind.{common_steps}
use Rattle.std.proofs.Common.{◌≡◌, ◌∙◌, ◌+◌, ◌-◌, ◌++◌, ◌∷◌, [], List, ℕ, Some, ap, sym, subst, arith, take}
use Rattle.std.proofs.lemmas.List.{take_more}
use Rattle.std.proofs.lemmas.List.Elements.{All-nil, All-push}
use Rattle.std.proofs.lemmas.Option.{get_or_from_slice_get, slice_get_within}
use Rattle.std.specs.Prelude.{slice_get}
use Rattle.journal_text.specs.Journal.{begun, ended_line, entry_line, header, AreFit}
use Rattle.journal_text.specs.Table.{entry_words, FitWords}
use Rattle.journal_text.specs.declared.version.Version.TheVariants.{Two}
use Rattle.streams.proofs.Parts.{part_of_more}
use Rattle.streams.proofs.Results.{on_err}
use Rattle.streams.proofs.Tallies.{further, unspent}
use Rattle.streams.proofs.Waiting.{broken, gathered, passed, started}
use Rattle.streams.specs.Part.{AppendsPart}
use Rattle.journal_text.proofs.Fronts.{begun_front, begun_more, begun_none}
use Rattle.journal_text.proofs.writer.write_entries.Goals as goal

-- one entry more
taken : {A : Type 0} (xs : List A) (n : ℕ) (x : A) → slice_get xs (n + 1 - 1) ≡ Some x → take (n + 1) xs ≡ take n xs ++ x ∷ []
taken xs n x h =
    let same : n + 1 - 1 ≡ n = omega arith in
    let at = subst (λ k. slice_get xs k ≡ Some x) same h in
    take_more xs n x (slice_get_within xs n x at) ∙ ap (λ y. take n xs ++ y ∷ []) (get_or_from_slice_get xs n x x at)

pub loop-n-init : goal.loop-n-init
loop-n-init g c = record {
  written = started (g.W.CountedWrite.contents c.args.writer.now) c.push_bytes.new.text.items (begun Two [])
      (c.push_bytes.ensures.items ∙ ap (λ t. t ++ ended_line (header Two)) c.requires.empty ∙ sym (begun_none Two));
  room = omega (arith, c.push_bytes.ensures.capacity, c.requires.room);
  fit = All-nil (λ e. FitWords (entry_words e));
  spent = unspent _ _;
}

pub loop-n-preserved : goal.loop-n-preserved
loop-n-preserved g c =
    let front = take c.loop-n.n c.args.session.now.kept in
    let e = c.in-Some.entry.now in
    let next = taken c.args.session.now.kept c.loop-n.n e c.in-Some.ensures in
    record {
      written = gathered _ _ c.make_room_for_line.new.text.items c.push_ended_line.new.text.items (entry_line e) (begun Two front) _
          c.push_ended_line.ensures.items (ap (begun Two) next ∙ begun_more Two front e)
          (passed _ _ _ c.loop-n.text.items _ _ c.loop-n.invariant.written c.in_ok-make_room_for_line.ensures.written);
      room = omega (arith, c.push_ended_line.ensures.capacity, c.in_ok-make_room_for_line.ensures.capacity);
      spent = further _ _ _ _ _ _ c.loop-n.invariant.spent c.in_ok-make_room_for_line.ensures.spent;
      fit = subst AreFit (sym next) (All-push (λ e. FitWords (entry_words e)) front e c.loop-n.invariant.fit c.push_ended_line.ensures.fit);
    }

pub returns-in_err-make_room_for_line-clause-part : goal.returns-in_err-make_room_for_line-clause-part
returns-in_err-make_room_for_line-clause-part g c =
    let part = broken _ _ _ c.loop-n.text.items _ c.loop-n.invariant.written c.in_err-make_room_for_line.ensures.part in
    on_err c.from_residual.result (subst (AppendsPart _ _) (sym (begun_front Two c.loop-n.n c.args.session.now.kept)) (part_of_more _ _ _ _ part))

pub returns-clause-fit : goal.returns-clause-fit
returns-clause-fit g c = grind (arith, common_steps)

pub returns-clause-written : goal.returns-clause-written
returns-clause-written g c = grind (arith, common_steps)
