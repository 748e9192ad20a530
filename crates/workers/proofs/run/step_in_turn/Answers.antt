use Rattle.std.proofs.lemmas.Grind.{common_steps}
use Rattle.std.proofs.Common.{rules, ◌<◌, length, length-append, arith, ap, ◌∙◌, ◌∷◌, ◌++◌, [], sym, Err}
use Rattle.std.proofs.lemmas.List.{append-nil}
use Rattle.engine_base.specs.declared.entry.Entry.{Entry}
use Rattle.engine_base.specs.declared.step.Reply.{Reply}
use Rattle.engine_base.specs.declared.step.Step.{Step}
use Rattle.shell_model.specs.WorkerEntries.{entries_of}
use Rattle.workers.proofs.Turning.{gained, leaves_same, not_refused, few_made, within_more, within_spent}
use Rattle.workers.proofs.run.step_in_turn.Goals as goal

pub returns-in-Ok-step-clause-same : goal.returns-in-Ok-step-clause-same
returns-in-Ok-step-clause-same g c = let took = c.in-Ok.ensures.took in let gave = c.give.ensures.gave in
    (ap (λ p. p.book) gave.pass ∙ ap (λ p. p.book) took.pass, ap (λ p. p.worker) gave.pass ∙ ap (λ p. p.worker) took.pass)

pub returns-in-Err-OutOfMemory-clause-same : goal.returns-in-Err-OutOfMemory-clause-same
returns-in-Err-OutOfMemory-clause-same g c = let took = c.in-Ok.ensures.took in let gave = c.give-in-Err-OutOfMemory.ensures.gave in
    (ap (λ p. p.book) gave.pass ∙ ap (λ p. p.book) took.pass, ap (λ p. p.worker) gave.pass ∙ ap (λ p. p.worker) took.pass)

pub returns-in-Err-JournalFull-clause-same : goal.returns-in-Err-JournalFull-clause-same
returns-in-Err-JournalFull-clause-same g c = let took = c.in-Ok.ensures.took in let gave = c.give-in-Err-JournalFull.ensures.gave in
    (ap (λ p. p.book) gave.pass ∙ ap (λ p. p.book) took.pass, ap (λ p. p.worker) gave.pass ∙ ap (λ p. p.worker) took.pass)

pub give-requires-in-Err-OutOfMemory-clause-leaves : goal.give-requires-in-Err-OutOfMemory-clause-leaves
give-requires-in-Err-OutOfMemory-clause-leaves g c =
    let v = c.value.ensures.value ∙ sym c.in-Ok.ensures.took.taken in
    let same = c.in-Err-OutOfMemory.ensures.err in
    leaves_same _ _ _ _ _ _ _
    (λ i. ((same.opening ∙ ap (λ s. s.opening) v) i, (same.limit ∙ ap (λ s. s.limit) v) i))
    (same.kept ∙ ap (λ s. s.kept) v ∙ sym (append-nil _))
    (same.tail ∙ ap (λ s. s.tail) v)

pub give-requires-in-Err-JournalFull-clause-leaves : goal.give-requires-in-Err-JournalFull-clause-leaves
give-requires-in-Err-JournalFull-clause-leaves g c =
    let v = c.value.ensures.value ∙ sym c.in-Ok.ensures.took.taken in
    let same = c.in-Err-JournalFull.ensures.err in
    leaves_same _ _ _ _ _ _ _
    (λ i. ((same.opening ∙ ap (λ s. s.opening) v) i, (same.limit ∙ ap (λ s. s.limit) v) i))
    (same.kept ∙ ap (λ s. s.kept) v ∙ sym (append-nil _))
    (same.tail ∙ ap (λ s. s.tail) v)

pub returns-in-Err-JournalFull-clause-err : goal.returns-in-Err-JournalFull-clause-err
returns-in-Err-JournalFull-clause-err g c =
    let took = c.in-Ok.ensures.took in
    let v = c.value.ensures.value ∙ sym took.taken in
    let gave = c.give-in-Err-JournalFull.ensures.gave in
    let same = c.in-Err-JournalFull.ensures.err in (
      gained _ _ _ _ _ _ [] gave (same.kept ∙ ap (λ s. s.kept) v ∙ sym (append-nil _)) ∙ append-nil _ ∙ ap (λ p. p.own) took.pass,
      ap (λ p. length p.last) gave.pass ∙ ap length same.kept
          ∙ c.in-Err-JournalFull.ensures.full.0 (ap (λ f. Err f) c.in-Err-JournalFull.field-0-is)
          ∙ ap (λ s. s.limit) c.value.ensures.value ∙ ap (λ p. p.1) took.shows.same_origin,
    )

-- the journal is not full where memory is why
pub returns-in-Err-OutOfMemory-clause-err : goal.returns-in-Err-OutOfMemory-clause-err
returns-in-Err-OutOfMemory-clause-err g c =
    let took = c.in-Ok.ensures.took in
    let shows = took.shows in
    let gave = c.give-in-Err-OutOfMemory.ensures.gave in
    let same = c.in-Err-OutOfMemory.ensures.err in
    let v = c.value.ensures.value ∙ sym took.taken in
    let value = ap (λ s. s.kept) c.value.ensures.value in
    let own = gained _ _ _ _ _ _ [] gave (same.kept ∙ ap (λ s. s.kept) v ∙ sym (append-nil _)) ∙ append-nil _ ∙ ap (λ p. p.own) took.pass in
    let worker = ap (λ p. p.worker) gave.pass ∙ ap (λ p. p.worker) took.pass in
    let last = ap (λ p. p.last) gave.pass ∙ same.kept ∙ value ∙ shows.list_is in
    let long = ap (λ p. length p.last) gave.pass ∙ ap length same.kept in
    let limit = ap (λ s. s.limit) c.value.ensures.value ∙ ap (λ p. p.1) shows.same_origin in
    let below : length c.value.result.now.kept < c.value.result.now.limit = search rules in (
      own,
      (shows.news, last, ap (λ w. entries_of w shows.news) worker ∙ shows.own_is ∙ sym own, omega (arith, long, limit, below)),
    )

pub unreachable-requires : goal.unreachable-requires
unreachable-requires g c =
    let no = c.in-Err-NotNow.ensures.not_now (ap (λ f. Err f) c.in-Err-NotNow.field-0-is) in
    let shows = c.in-Ok.ensures.took.shows in
    let same = c.in-Err-NotNow.ensures.err in
    let sound = c.in-Err-NotNow.ensures.sound in
    not_refused g.E.Engine.act g.E.Engine.count c.args.book.now.opening.opening _ _ _ c.args.book.now.opening.kept _ c.args.step c.args.pass.own shows.news c.requires.takes
    (same.opening ∙ ap (λ s. s.opening) c.value.ensures.value ∙ ap (λ p. p.0) shows.same_origin) (same.kept ∙ ap (λ s. s.kept) c.value.ensures.value ∙ shows.list_is)
    (ap (λ w. entries_of w shows.news) (sym c.requires.worker) ∙ shows.own_is) sound.legal sound.stands same.shown no.0 no.1

pub returns-in-Ok-step-clause-ok : goal.returns-in-Ok-step-clause-ok
returns-in-Ok-step-clause-ok g c =
    let took = c.in-Ok.ensures.took in
    let gave = c.give.ensures.gave in
    let v = c.value.ensures.value ∙ sym took.taken in
    let value = ap (λ s. s.kept) c.value.ensures.value in
    let e : Entry Step Reply = record { step = c.args.step; reply = c.in-Ok-step.reply } in
    let own = gained _ _ _ _ _ _ _ gave (c.in-Ok-step.ensures.ok ∙ ap (λ s. s.kept ++ e ∷ []) v) ∙ ap (λ p. p.own ++ e ∷ []) took.pass in
    let draws = ap (λ p. p.draws) gave.pass ∙ ap (λ p. p.draws) took.pass in
    let last = ap (λ p. length p.last) gave.pass in
    let seen = last ∙ ap length c.in-Ok-step.ensures.ok in
    let shows = took.shows in
    let few = few_made (λ e. e.step.worker) c.args.pass.worker shows.news in
    let mine = ap length shows.own_is in
    let list = ap length (value ∙ shows.list_is) ∙ length-append c.args.book.now.opening.kept shows.news in
    let room = c.in-Ok-step.ensures.sound.room in
    let limit = c.in-Ok-step.ensures.limit ∙ ap (λ s. s.limit) c.value.ensures.value ∙ ap (λ p. p.1) shows.same_origin in
    (own, c.requires.answers _ _ _ _ c.in-Ok-step.ensures.accepted, within_more c.args.book.now.opening.limit c.args.pass _ c.value.result.now.kept e own draws seen (omega (arith, few, mine, list)) (omega (arith, last, room, limit)) c.requires.within)

pub returns-in-Err-clause-err : goal.returns-in-Err-clause-err
returns-in-Err-clause-err g c =
    let spent = c.in-Err.ensures.spent in
    let draws = ap (λ p. p.draws) spent.0 in
    let enough = spent.1 in (
      ap (λ p. p.own) spent.0,
      ap (λ p. length p.last) spent.0 ∙ within_spent c.args.book.now.opening.limit c.args.book.now.turns c.args.pass c.requires.within c.requires.turns (omega (arith, draws, enough)),
    )

pub give-requires-in-Err-JournalFull-clause-own : goal.give-requires-in-Err-JournalFull-clause-own
give-requires-in-Err-JournalFull-clause-own g c = grind (arith, common_steps)
