use Rattle.std.proofs.Common.{◌-◌, ◌≤◌, List, ℕ, length, subst, arith}
use Rattle.journal.specs.Faults.{StandsBack}
use Rattle.policies.specs.declared.any_policy.AnyPolicy.{AnyPolicy}
use Rattle.debug_policies.proofs.Sessions.{moved}
use Rattle.debug_policies.proofs.one_policy.OnePolicy.back.Goals as goal
use Rattle.debug_policies.proofs.one_policy.OnePolicy.back.Goals.{in-Ok, in-Err-OutOfMemory}

pub invariant_of-self : goal.invariant_of-self
invariant_of-self c =
    let trace : List ℕ = c.self.inside.trace.now in
    let s = c.self.inside.session in
    let fewer : (m : ℕ) → length s.kept - m ≤ length s.kept = λ m. omega arith in
    elim c.match-back.branch [
      | in-Ok w ↦ moved c.any_step_law.ensures c.self.inside.job trace (length s.kept - c.args.n) s c.back.new.self c.self.invariant
          w.in-Ok.ensures.ok (fewer c.args.n) c.back.ensures.sound.legal c.back.ensures.sound.stands
      | in-Err-OutOfMemory w ↦
          let m : ℕ = w.in-Err-OutOfMemory.field-0-0 in
          let to = subst (λ f. StandsBack (λ (p : AnyPolicy). p) s c.back.new.self c.args.n f) w.in-Err-OutOfMemory.field-0-is w.in-Err-OutOfMemory.ensures.err in
          moved c.any_step_law.ensures c.self.inside.job trace (length s.kept - m) s c.back.new.self c.self.invariant
          to.2 (fewer m) c.back.ensures.sound.legal c.back.ensures.sound.stands
    ]
