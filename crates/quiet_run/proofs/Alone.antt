-- A worker that is alone with the shell: each act that its walk asks for is one that the shell takes.
use Rattle.std.proofs.Common.{◌≡◌, ◌≢◌, ℕ, ◌≤◌, true, false, eqb, Option, Some, None, IsSome, [], ◌∷◌, ◌++◌, length, refl, sym, ap, ◌∙◌, subst, inl, inr, arith}
use Rattle.std.proofs.lemmas.Bool.{cases_Bool, eqb-true, eq-eqb}
use Rattle.std.proofs.lemmas.List.{append_assoc, append-nil, map-append}
use Rattle.engine_base.specs.declared.step.Act.TheVariants as act
use Rattle.engine_base.specs.declared.step.Reply.TheVariants as reply
use Rattle.engine_base.specs.declared.drain.Phase.TheVariants.{Reads, Writes, Evictions}
use Rattle.engine_base.specs.Answers.{is_answer}
use Rattle.engine_base.specs.History.{Entries}
use Rattle.shell_model.specs.ReachableShell.{Step, Reply, IsReachable, worker_of}
use Rattle.shell_model.specs.Laws.{Phase, Act, Entry, is_ending}
use Rattle.shell_model.specs.Shell.{Shell, held_by, act_reply, act as acted}
use Rattle.shell_model.proofs.Engines.{hold_laws}
use Rattle.shell_model.proofs.Reached.{reached-sound, reached-on}
use Rattle.shell_model.specs.declared.place.Local.{Local}
use Rattle.shell_model.specs.declared.next.Next.{Next}
use Rattle.shell_model.specs.declared.next.Next.TheVariants as next_act
use Rattle.shell_model.specs.Walks.{step_of}
use Rattle.shell_model.specs.WalkPlaces.{IsWalkFrom, phase_act}
use Rattle.shell_model.specs.NextActs.{IsAheadOf, AheadAfter, IsRestOfWalk, IsAskedNext}
use Rattle.shell_model.proofs.Standing.{Standing, Stands, phase_of, next_of, ActFits, accepts, mine, own_step, other_step, not_of}
use Rattle.shell_model.proofs.Asking.{follow, first_step, not_over}
use Rattle.shell_model.proofs.Walking.{asked_of, completion, not_done, same_step}
use Rattle.shell_model.proofs.Admitting.{at_start, no_node, starts, nobody}
use Rattle.quiet_run.specs.QuietWalks.{reply_with_round, entry_with_round, with_rounds}
use Rattle.quiet_run.specs.Settle.{Holder, IsAtStart}
use Rattle.quiet_run.proofs.Rounds.{finish_rounds}

-- the worker stands there, and no other holds the maintenance
pub record Alone (w n : ℕ) (s : Standing) (x : Shell) : Type 0 where
  pub reached : IsReachable x
  pub own : Stands w n s x
  pub others : (v : ℕ) → (w ≡ v → ⊥) → Stands v n at_start x

alone-on : (w n : ℕ) (s : Standing) (x y : Shell) (b : Act) (r : Reply) → acted x (step_of w b) ≡ Some (r, y) → Alone w n s x → Alone w n (next_of s b r) y
alone-on w n s x y b r h a =
    let e : Entry Step Reply = record { step = step_of w b; reply = r } in
    record {
      reached = reached-on x y (step_of w b) r a.reached h;
      own = own_step n s x e y (reached-sound x a.reached) h a.own;
      others = λ v ne. other_step v n at_start x e y ne h (a.others v ne);
    }

-- where it does not hold the maintenance, nobody does
alone-free : (w n : ℕ) (s : Standing) (x : Shell) → Alone w n s x → s.at ≡ None → x.holder ≡ None
alone-free w n s x a free = nobody x.holder by
  where
    by : (v : ℕ) → phase_of (held_by v x.holder) ≡ None
    by v =
        elim (cases_Bool (eqb w v)) [
          | inl t ↦ subst (λ (u : ℕ). phase_of (held_by u x.holder) ≡ None) (eqb-true w v t) (a.own.holds ∙ free)
          | inr t ↦ (a.others v (λ q. let no : true ≡ false = sym (eq-eqb w v q) ∙ t in cc no)).holds
        ]

phase-fits : (n : ℕ) → 1 ≤ n → (q : Phase) (s : Standing) → s.at ≡ Some q → ActFits n (phase_act q) s
phase-fits n o Reads s e = (e, omega (arith, o))
phase-fits n o Writes s e = (Writes, e, refl)
phase-fits n o Evictions s e = (Evictions, e)

-- where a worker stands that is at the act
abbrev Begins : ℕ → ℕ → Act → Shell → Type 0
Begins w n a x = (s : Standing) × Alone w n s x × ActFits n a s

begins : (w n : ℕ) (a : Act) (x : Shell) (o : Option Holder) → 1 ≤ n → IsReachable x → length x.stripes ≡ n → x.holder ≡ o → IsAtStart o w a → Begins w n a x
begins w n a x None some r many e g = (
  at_start,
  record { reached = r; own = starts w n x e many; others = λ v ne. starts v n x e many },
  subst (λ (b : Act). ActFits n b at_start) (sym g.1) refl,
)
begins w n a x (Some h) some r many e g =
    let s : Standing = record { at = Some h.phase; node = None; fits = false } in (
      s,
      record {
        reached = r;
        own = record { holds = ap phase_of (mine w x h e g.0); node = λ m d. no_node m x d; stripes = many; window = λ f. absurd (cc f) };
        others = λ v ne. (let t : eqb v h.worker ≡ false = not_of v h.worker (λ i. ne (sym g.0 ∙ i)) in
            record { holds = rw (e, t) refl; node = λ m d. no_node m x d; stripes = many; window = λ f. absurd (cc f) });
      },
      subst (λ (b : Act). ActFits n b s) (sym g.1) (phase-fits n some h.phase s refl),
    )

-- ---- what comes next

-- the next act fits; where none is, the worker does not hold the maintenance
abbrev FitsNext : ℕ → Next → Standing → Type 0
FitsNext n next_act.Done s = s.at ≡ None
FitsNext n (next_act.Do a l) s = ActFits n a s

same-act : (w n : ℕ) (a : Act) (j : ℕ) (m : Local) (es : Entries) → IsWalkFrom w n a j es → IsAheadOf m es → a ≡ m.act
same-act w n a j m [] h g = absurd (not_done m g)
same-act w n a j m (y ∷ es) h g = ap (λ (t : Step). t.act) (sym (first_step w n a j y es h) ∙ first_step m.worker m.stripes m.act m.drained y es g)

first-fits : (l : Local) (next : Next) (s : Standing) → ActFits l.stripes l.act s → IsAskedNext l.worker l.stripes next
    → ((es : Entries) → IsRestOfWalk next es → IsAheadOf l es) → FitsNext l.stripes next s
first-fits l next_act.Done s f asks back = absurd (not_done l (back [] refl))
first-fits l (next_act.Do a m) s f asks back =
    let c = completion m in
    subst (λ (b : Act). ActFits l.stripes b s) (same-act l.worker l.stripes l.act l.drained m c.0 (back c.0 c.1) c.1 ∙ asks.0) f

next-fits : (l : Local) (after : Next) (s : Standing) (q : Reply) → ActFits l.stripes l.act s → IsAskedNext l.worker l.stripes after
    → ((es : Entries) → IsRestOfWalk after es → AheadAfter l (Some q) es) → FitsNext l.stripes after (next_of s l.act q)
next-fits l next_act.Done s q f asks back =
    elim (follow l.worker l.stripes l.some l.act l.drained q [] s f (back [] refl)) [
      | inl over ↦ over.1
      | inr p ↦ absurd (not_over l.worker l.stripes p.0 p.1 p.2)
    ]
next-fits l (next_act.Do a m) s q f asks back =
    let c = completion m in
    elim (follow l.worker l.stripes l.some l.act l.drained q c.0 s f (back c.0 c.1)) [
      | inl over ↦ absurd (not_done m (subst (λ (es : Entries). IsAheadOf m es) over.0 c.1))
      | inr p ↦
          subst (λ (b : Act). ActFits l.stripes b (next_of s l.act q)) (same-act l.worker l.stripes p.0 p.1 m c.0 p.2 c.1 ∙ asks.0) p.3
    ]

-- a round behind a report leaves its worker where the report did
round-stands : (s : Standing) (b : Act) (r : Reply) → next_of s b (reply_with_round r) ≡ next_of s b r
round-stands s b reply.Go = by b
  where
    by : (c : Act) → next_of s c reply.Drain ≡ next_of s c reply.Go
    by act.Begin = refl
    by c = refl
round-stands s b r = refl

pub round_answers : (b : Act) (r : Reply) → is_answer b r ≡ true → is_answer b (reply_with_round r) ≡ true
round_answers b reply.Go h = by b h
  where
    by : (c : Act) → is_answer c reply.Go ≡ true → is_answer c reply.Drain ≡ true
    by (act.AfterRead q) h = refl
    by act.AfterWrite h = refl
    by c h = absurd (cc h)
round_answers b r h = h

-- ---- a loop over the acts of a walk

-- the worker stands where its next act fits
abbrev pub IsAlone : ℕ → ℕ → Next → Shell → Type 0
IsAlone w n next x = (s : Standing) × Alone w n s x × FitsNext n next s

pub alone_first : (l : Local) (next : Next) (x : Shell) → IsReachable x → length x.stripes ≡ l.stripes → IsAtStart x.holder l.worker l.act → IsAskedNext l.worker l.stripes next
    → ((es : Entries) → IsRestOfWalk next es → IsAheadOf l es) → IsAlone l.worker l.stripes next x
alone_first l next x r many start asks back =
    let b = begins l.worker l.stripes l.act x x.holder l.some r many refl start in
    (b.0, b.1, first-fits l next b.0 b.2 asks back)

pub alone_next : (w n : ℕ) (next after : Next) (a : Act) (l : Local) (x y : Shell) (r q : Reply) → next ≡ next_act.Do a l → IsAskedNext w n next → IsAlone w n next x
    → acted x (step_of w a) ≡ Some (r, y) → q ≡ reply_with_round r → IsAskedNext l.worker l.stripes after
    → ((es : Entries) → IsRestOfWalk after es → AheadAfter l (Some q) es) → IsAlone w n after y
alone_next w n next after a l x y r q d asks alone e g more back =
    let s : Standing = alone.0 in
    let h : IsAskedNext w n (next_act.Do a l) = asked_of w n next a l d asks in
    let fits : ActFits n a s = subst (λ (m : Next). FitsNext n m s) d alone.2 in
    let here : ActFits l.stripes l.act s = subst (λ (m : ℕ). ActFits m l.act s) (sym h.2) (subst (λ (b : Act). ActFits n b s) (sym h.0) fits) in
    let then : FitsNext l.stripes after (next_of s a q) = subst (λ (b : Act). FitsNext l.stripes after (next_of s b q)) h.0 (next-fits l after s q here more back) in
    let now : FitsNext n after (next_of s a q) = subst (λ (m : ℕ). FitsNext m after (next_of s a q)) h.2 then in
    let same : next_of s a q ≡ next_of s a r = ap (λ (t : Reply). next_of s a t) g ∙ round-stands s a r in
    (next_of s a r, alone-on w n s x y a r e alone.1, subst (λ (t : Standing). FitsNext n after t) same now)

some-of : {A : Type 0} → (o : Option A) → (o ≡ None → ⊥) → IsSome o
some-of None h = absurd (h refl)
some-of (Some a) h = refl

pub alone_takes : (w n : ℕ) (next : Next) (a : Act) (l : Local) (x : Shell) → next ≡ next_act.Do a l → IsAlone w n next x → IsSome (act_reply w a x)
alone_takes w n next a l x d alone = some-of (act_reply w a x) (accepts w n alone.0 x a alone.1.own (subst (λ (m : Next). FitsNext n m alone.0) d alone.2))

pub alone_over : (w n : ℕ) (next : Next) (x : Shell) → next ≡ next_act.Done → IsAlone w n next x → x.holder ≡ None
alone_over w n next x d alone = alone-free w n alone.0 x alone.1 (subst (λ (m : Next). FitsNext n m alone.0) d alone.2)

-- ---- who held the maintenance at first

-- and holds it as long as acts come
abbrev pub HoldsOn : Option Holder → Next → Shell → Type 0
HoldsOn o next_act.Done x = Unit {0}
HoldsOn o (next_act.Do a l) x = (v : ℕ) → worker_of o ≡ Some v → worker_of x.holder ≡ Some v

pub holds_first : (next : Next) (x : Shell) → HoldsOn x.holder next x
holds_first next_act.Done x = tt
holds_first (next_act.Do a l) x = λ v h. h

-- nothing comes behind the end of a maintenance
ending-over : (w n : ℕ) (a : Act) (j : ℕ) (r : Reply) (es : Entries) → is_ending r ≡ true → IsWalkFrom w n a j (record { step = step_of w a; reply = r } ∷ es) → es ≡ []
ending-over w n act.End j reply.Idle es i h = h.1
ending-over w n act.End j reply.Again es i h = h.1
ending-over w n act.End j r es i h = absurd (cc i)
ending-over w n (act.Lose s k) j r es i h = absurd h
ending-over w n a j reply.Idle es i h = absurd h.1
ending-over w n a j reply.Again es i h = absurd h.1
ending-over w n a j r es i h = absurd (cc i)

going-on : (l : Local) (a : Act) (m : Local) (r : Reply) → ((es : Entries) → IsRestOfWalk (next_act.Do a m) es → AheadAfter l (Some (reply_with_round r)) es) → is_ending r ≡ false
going-on l a m reply.Idle back = let c = completion m in absurd (not_done m (subst (λ (es : Entries). IsAheadOf m es) (ending-over l.worker l.stripes l.act l.drained reply.Idle c.0 refl (back c.0 c.1)) c.1))
going-on l a m reply.Again back = let c = completion m in absurd (not_done m (subst (λ (es : Entries). IsAheadOf m es) (ending-over l.worker l.stripes l.act l.drained reply.Again c.0 refl (back c.0 c.1)) c.1))
going-on l a m r back = refl

holds-next : (o : Option Holder) (w : ℕ) (after : Next) (a : Act) (l : Local) (x y : Shell) (r : Reply) → HoldsOn o (next_act.Do a l) x → acted x (step_of w a) ≡ Some (r, y)
    → ((es : Entries) → IsRestOfWalk after es → AheadAfter l (Some (reply_with_round r)) es) → HoldsOn o after y
holds-next o w next_act.Done a l x y r held e back = tt
holds-next o w (next_act.Do b m) a l x y r held e back = λ v h. hold_laws.holds x y (step_of w a) r v (held v h) e (λ same. going-on l b m r back)

pub holds_next : (o : Option Holder) (w : ℕ) (next after : Next) (a : Act) (l : Local) (x y : Shell) (r q : Reply) → next ≡ next_act.Do a l → HoldsOn o next x → acted x (step_of w a) ≡ Some (r, y) → q ≡ reply_with_round r
    → ((es : Entries) → IsRestOfWalk after es → AheadAfter l (Some q) es) → HoldsOn o after y
holds_next o w next after a l x y r q d held e g back =
    holds-next o w after a l x y r (subst (λ (m : Next). HoldsOn o m x) d held) e
    (λ es h. subst (λ (t : Reply). AheadAfter l (Some t) es) g (back es h))

pub holds_now : (o : Option Holder) (next : Next) (a : Act) (l : Local) (x y : Shell) → next ≡ next_act.Do a l → HoldsOn o next x → y ≡ x → (v : ℕ) → worker_of o ≡ Some v → worker_of y.holder ≡ Some v
holds_now o next a l x y d held same v h =
    let now : HoldsOn o (next_act.Do a l) x = subst (λ (m : Next). HoldsOn o m x) d held in
    ap (λ (z : Shell). worker_of z.holder) same ∙ now v h

-- ---- what completes the walk, behind these entries

abbrev pub GoesOn : Local → Next → Entries → Type 0
GoesOn start next es = (rest : Entries) → IsRestOfWalk next rest → IsAheadOf start (with_rounds es ++ rest)

module _ (start : Local) where
  pub goes_on : (v m : ℕ) (next after : Next) (a : Act) (l : Local) (r q : Reply) → next ≡ next_act.Do a l → IsAskedNext v m next → q ≡ reply_with_round r
      → ((rest : Entries) → IsRestOfWalk after rest → AheadAfter l (Some q) rest)
      → (es : Entries) → GoesOn start next es → GoesOn start after (es ++ record { step = step_of v a; reply = r } ∷ [])
  goes_on v m next after a l r q d asks g back es all rest left =
      let h : IsAskedNext v m (next_act.Do a l) = asked_of v m next a l d asks in
      let e : Entry Step Reply = record { step = step_of v a; reply = r } in
      let now : GoesOn start (next_act.Do a l) es = subst (λ (x : Next). GoesOn start x es) d all in
      let asked : IsAheadOf l (record { step = step_of l.worker l.act; reply = reply_with_round r } ∷ rest) = subst (λ (t : Reply). AheadAfter l (Some t) rest) g (back rest left) in
      let ahead : IsAheadOf l (entry_with_round e ∷ rest) =
      subst (λ (s : Step). IsAheadOf l (record { step = s; reply = reply_with_round r } ∷ rest)) (same_step v m a l h) asked in
      subst (λ (x : Entries). IsAheadOf start x)
      (sym (ap (λ (t : Entries). t ++ rest) (map-append entry_with_round es (e ∷ [])) ∙ append_assoc (with_rounds es) (entry_with_round e ∷ []) rest))
      (now (entry_with_round e ∷ rest) ahead)

  pub goes_over : (next : Next) → next ≡ next_act.Done → (es : Entries) → GoesOn start next es → IsAheadOf start (with_rounds es)
  goes_over next d es all = subst (λ (x : Entries). IsAheadOf start x) (append-nil (with_rounds es)) (all [] (subst (λ (m : Next). IsRestOfWalk m []) (sym d) refl))

  pub goes_begun : (next : Next) (a : Act) (l : Local) → next ≡ next_act.Do a l → (es : Entries) → GoesOn start next es → (rest : Entries) × (rest ≢ []) × IsAheadOf start (with_rounds (es ++ rest))
  goes_begun next a l d es all =
      let f = finish_rounds l.worker l.stripes l.act l.drained l.placed in
      let now : GoesOn start (next_act.Do a l) es = subst (λ (x : Next). GoesOn start x es) d all in (
        f.0,
        (λ none. not_done l (subst (λ (x : Entries). IsAheadOf l (with_rounds x)) none f.1)),
        subst (λ (x : Entries). IsAheadOf start x) (sym (map-append entry_with_round es f.0)) (now (with_rounds f.0) f.1),
      )
