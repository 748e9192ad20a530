use Rattle.std.proofs.Common.{◌≡◌, ◌∙◌, ap, arith, sym}
use Rattle.engine_base.specs.History.{data_after, Entries}
use Rattle.shell_model.specs.Shell.{Shell, act}
use Rattle.library_examples.proofs.concurrent_run.copy_of.Goals as goal

-- the same steps from the same opening lead to the same cache
same_cache : (x y a b : Shell) (es fs : Entries) → a ≡ data_after act x es → b ≡ data_after act y fs → x ≡ y → es ≡ fs → a ≡ b
same_cache x y a b es fs p q opening steps =
    p ∙ ap (λ (o : Shell). data_after act o es) opening ∙ ap (λ (l : Entries). data_after act y l) steps ∙ sym q

pub copy_journal-requires : goal.copy_journal-requires
copy_journal-requires c =
    let new = c.in-Ok.ensures in
    let room = c.sound.ensures.room in
    let limit = c.sound.ensures.small in
    let wide = new.limit in
    record {
      alike = c.opened_alike.ensures c.args.config.now c.args.session.now.opening c.in-Ok.copy.opening c.requires.opened new.opening;
      kept = new.kept;
      tail = new.tail;
      room = omega (arith, room, limit, wide);
    }

pub returns-clause-opening : goal.returns-clause-opening
returns-clause-opening c =
    c.copy_journal.ensures.opening
    ∙ c.opened_alike.ensures c.args.config.now c.args.session.now.opening c.in-Ok.copy.opening c.requires.opened c.in-Ok.ensures.opening

pub returns-clause-engine : goal.returns-clause-engine
returns-clause-engine c =
    same_cache _ _ _ _ _ _ c.sound-2.ensures.stands c.sound.ensures.stands (returns-clause-opening c) c.in_ok-copy_journal.ensures.taken
