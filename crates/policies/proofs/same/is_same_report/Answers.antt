use Rattle.std.proofs.Common.{◌≡◌, ◌∙◌, ℕ, Bool, Option, Some, None, ◌&&◌, eqb, Decides, ap, refl, subst, sym}
use Rattle.std.specs.Option.{option_eq}
use Rattle.std.proofs.lemmas.Bool.Decides.{Decides-and, Decides-eqb, Decides-like}
use denote.Enum.Bare.{sameb, same_true, true_same}
use Rattle.step_record.specs.contracts.job.Policy.{the_type}
use Rattle.step_record.specs.declared.job.Policy.{Policy}
use Rattle.step_record.specs.declared.sizes.Sizes.{Sizes}
use Rattle.policies.specs.declared.report.Report.{Report}
use Rattle.policies.proofs.same.is_same_report.Goals as goal

same-option : (x y : Option ℕ) → Decides (option_eq eqb x y) (x ≡ y)
same-option None None = (λ e. refl, λ e. refl)
same-option None (Some b) = (λ e. absurd (cc e), λ e. absurd (cc e))
same-option (Some a) None = (λ e. absurd (cc e), λ e. absurd (cc e))
same-option (Some a) (Some b) = Decides-like (eqb a b) (λ e. ap Some e) (λ e. cc e) (Decides-eqb a b)

same-policy : (p q : Policy) → Decides (sameb the_type p q) (p ≡ q)
same-policy p q = (same_true the_type tt p q, true_same the_type p q)

abbrev sizes : Option ℕ → Option ℕ → Option ℕ → Option ℕ → Option ℕ → Sizes
sizes m p i o s = record { main = m; period = p; kin = i; kout = o; small = s }

abbrev eq-sizes : Sizes → Sizes → Bool
eq-sizes s t =
    option_eq eqb s.main t.main && (option_eq eqb s.period t.period && (option_eq eqb s.kin t.kin && (option_eq eqb s.kout t.kout && option_eq eqb s.small t.small)))

same-sizes : (s t : Sizes) → Decides (eq-sizes s t) (s ≡ t)
same-sizes s t =
    Decides-like (eq-sizes s t)
    (λ h. ap (λ x. sizes x s.period s.kin s.kout s.small) h.0 ∙ ap (λ x. sizes t.main x s.kin s.kout s.small) h.1.0
    ∙ ap (λ x. sizes t.main t.period x s.kout s.small) h.1.1.0 ∙ ap (λ x. sizes t.main t.period t.kin x s.small) h.1.1.1.0
    ∙ ap (λ x. sizes t.main t.period t.kin t.kout x) h.1.1.1.1)
    (λ e. (ap (λ (x : Sizes). x.main) e, (ap (λ (x : Sizes). x.period) e, (ap (λ (x : Sizes). x.kin) e, (ap (λ (x : Sizes). x.kout) e, ap (λ (x : Sizes). x.small) e)))))
    (Decides-and _ _ (same-option s.main t.main) (Decides-and _ _ (same-option s.period t.period) (Decides-and _ _ (same-option s.kin t.kin)
    (Decides-and _ _ (same-option s.kout t.kout) (same-option s.small t.small)))))

abbrev report : Policy → Sizes → ℕ → ℕ → ℕ → ℕ → ℕ → ℕ → Report
report p s c a h m e r =
    record { policy = p; sizes = s; capacity = c; accesses = a; hits = h; misses = m; evictions = e; rejections = r }

abbrev eq-report : Report → Report → Bool
eq-report a b =
    sameb the_type a.policy b.policy && (eq-sizes a.sizes b.sizes && (eqb a.capacity b.capacity && (eqb a.accesses b.accesses
    && (eqb a.hits b.hits && (eqb a.misses b.misses && (eqb a.evictions b.evictions && eqb a.rejections b.rejections))))))

same-report : (a b : Report) → Decides (eq-report a b) (a ≡ b)
same-report a b =
    Decides-like (eq-report a b)
    (λ h. ap (λ x. report x a.sizes a.capacity a.accesses a.hits a.misses a.evictions a.rejections) h.0
    ∙ ap (λ x. report b.policy x a.capacity a.accesses a.hits a.misses a.evictions a.rejections) h.1.0
    ∙ ap (λ x. report b.policy b.sizes x a.accesses a.hits a.misses a.evictions a.rejections) h.1.1.0
    ∙ ap (λ x. report b.policy b.sizes b.capacity x a.hits a.misses a.evictions a.rejections) h.1.1.1.0
    ∙ ap (λ x. report b.policy b.sizes b.capacity b.accesses x a.misses a.evictions a.rejections) h.1.1.1.1.0
    ∙ ap (λ x. report b.policy b.sizes b.capacity b.accesses b.hits x a.evictions a.rejections) h.1.1.1.1.1.0
    ∙ ap (λ x. report b.policy b.sizes b.capacity b.accesses b.hits b.misses x a.rejections) h.1.1.1.1.1.1.0
    ∙ ap (λ x. report b.policy b.sizes b.capacity b.accesses b.hits b.misses b.evictions x) h.1.1.1.1.1.1.1)
    (λ e. (
      ap (λ (x : Report). x.policy) e,
      (
        ap (λ (x : Report). x.sizes) e,
        (
          ap (λ (x : Report). x.capacity) e,
          (
            ap (λ (x : Report). x.accesses) e,
            (ap (λ (x : Report). x.hits) e, (ap (λ (x : Report). x.misses) e, (ap (λ (x : Report). x.evictions) e, ap (λ (x : Report). x.rejections) e))),
          ),
        ),
      ),
    ))
    (Decides-and _ _ (same-policy a.policy b.policy) (Decides-and _ _ (same-sizes a.sizes b.sizes) (Decides-and _ _ (Decides-eqb a.capacity b.capacity)
    (Decides-and _ _ (Decides-eqb a.accesses b.accesses) (Decides-and _ _ (Decides-eqb a.hits b.hits) (Decides-and _ _ (Decides-eqb a.misses b.misses)
    (Decides-and _ _ (Decides-eqb a.evictions b.evictions) (Decides-eqb a.rejections b.rejections))))))))

pub returns : goal.returns
returns c = subst (λ r. Decides r (c.args.a.now ≡ c.args.b.now)) (sym c.eq.ensures) (same-report c.args.a.now c.args.b.now)
