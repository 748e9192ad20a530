-- Which act comes next in walks, by where their worker stands.
use Rattle.std.proofs.Common.{◌≡◌, ℕ, ◌+◌, ◌<◌, ◌≤◌, ◌%◌, ◌==◌, Bool, cond, Some, None, List, [], ◌∷◌, ◌++◌, refl, sym, ap, ◌∙◌, subst, arith, ◌⊎◌, inl, inr, MatchBool}
use Rattle.std.proofs.lemmas.Bool.{cases_Bool}
use Rattle.std.proofs.lemmas.Bool.Decides.{nat_tests}
use Rattle.std.proofs.lemmas.List.{append_assoc, append-nil}
use Rattle.engine_base.specs.declared.entry.Entry.{Entry}
use Rattle.engine_base.specs.declared.step.Act.TheVariants as act
use Rattle.engine_base.specs.declared.step.Call.TheVariants as call
use Rattle.engine_base.specs.declared.step.Reply.TheVariants as reply
use Rattle.engine_base.specs.declared.step.Answer.TheVariants as answer
use Rattle.engine_base.specs.declared.drain.Phase.TheVariants.{Reads, Writes, Evictions}
use Rattle.engine_base.specs.History.{Entries}
use Rattle.shell_model.specs.Walks.{Step, Reply, Call, Act, step_of, IsWalk, AreWalks, IsReading, IsWriting}
use Rattle.shell_model.specs.WalkPlaces.{IsWalkFrom}
use Rattle.shell_model.proofs.Standing.{Standing, next_of, standing, ActFits}

abbrev said : ℕ → Act → Reply → Entry Step Reply
said w a r = record { step = step_of w a; reply = r }

remainder : (w n : ℕ) → 1 ≤ n → w % n < n
remainder w n h = omega arith

-- the walk is over and its worker holds no maintenance, or it goes on at a place where its worker may stand
abbrev pub Goes : ℕ → ℕ → Entries → Standing → Type 0
Goes w n es s = ((es ≡ []) × (s.at ≡ None)) ⊎ ((a : Act) × (j : ℕ) × IsWalkFrom w n a j es × ActFits n a s)

next_stripe : (w n st : ℕ) (es : Entries) (s : Standing) → s.at ≡ Some Reads → st < n → MatchBool (st + 1 == n) (IsWriting w n es) (IsReading w n (st + 1) 0 es) → Goes w n es s
next_stripe w n st es s e lt h =
    elim (cases_Bool (st + 1 == n)) [
      | inl t ↦ (let g : IsWriting w n es = rw t at h in inr (act.DrainWrite, 0, g, (Reads, e, refl)))
      | inr t ↦ (let g : IsReading w n (st + 1) 0 es = rw t at h in inr (act.DrainRead (st + 1), 0, g, (e, grind (arith, nat_tests, t, lt))))
    ]

pub follow : (w n : ℕ) → 1 ≤ n → (a : Act) (j : ℕ) (r : Reply) (es : Entries) (s : Standing) → ActFits n a s → IsWalkFrom w n a j (said w a r ∷ es) → Goes w n es (next_of s a r)
follow w n o (act.Look k) j (reply.Hit m) es s f h = inr (act.Offer (w % n) record { key = k; node = m }, 0, h.1, (remainder w n o, refl, f))
follow w n o (act.Look k) j reply.Miss es s f h = inr (act.Put k, 0, h.1, f)
follow w n o (act.Offer st i) j reply.Kept es s f h = inr (act.AfterRead answer.Kept, 0, h.1, f.2)
follow w n o (act.Offer st i) j reply.Full es s f h = inr (act.AfterRead answer.Full, 0, h.1, f.2)
follow w n o (act.AfterRead a) j reply.Go es s f h = inl (h.1, f)
follow w n o (act.AfterRead a) j reply.Drain es s f h = inr (act.Begin, 0, h.1, f)
follow w n o (act.Put k) j (reply.Added m) es s f h = inr (act.AfterWrite, 0, h.1, f)
follow w n o (act.Put k) j (reply.Present m) es s f h = inr (act.AfterWrite, 0, h.1, f)
follow w n o (act.Put k) j reply.WritesFull es s f h = inr (act.Begin, 0, h.1, f)
follow w n o (act.Remove k) j reply.Absent es s f h = inl (h.1, f)
follow w n o (act.Remove k) j (reply.Removed m) es s f h = inr (act.AfterWrite, 0, h.1, f)
follow w n o (act.Remove k) j reply.WritesFull es s f h = inr (act.Begin, 0, h.1, f)
follow w n o act.AfterWrite j reply.Go es s f h = inl (h.1, f)
follow w n o act.AfterWrite j reply.Drain es s f h = inr (act.Begin, 0, h.1, f)
follow w n o act.Begin j reply.Busy es s f h = inl (h.1, f)
follow w n o act.Begin j reply.Began es s f h = inr (act.DrainRead 0, 0, h.1, (refl, omega arith))
follow w n o (act.DrainRead st) j (reply.Drained i) es s f h =
    elim (cases_Bool (j + 1 == 16)) [
      | inl t ↦ next_stripe w n st es (next_of s (act.DrainRead st) (reply.Drained i)) f.0 f.1 (rw t at h.1)
      | inr t ↦ (let g : IsReading w n st (j + 1) es = rw t at h.1 in inr (act.DrainRead st, j + 1, g, f))
    ]
follow w n o (act.DrainRead st) j reply.Empty es s f h = next_stripe w n st es (next_of s (act.DrainRead st) reply.Empty) f.0 f.1 h.1
follow w n o act.DrainWrite j (reply.Applied i) es s f h = inr (act.DrainWrite, 0, h.1, (Writes, refl, refl))
follow w n o act.DrainWrite j (reply.Cleared i) es s f h = inr (act.DrainWrite, 0, h.1, (Writes, refl, refl))
follow w n o act.DrainWrite j reply.Empty es s f h = inr (act.Evict, 0, h.1, (Writes, refl))
follow w n o act.DrainWrite j reply.Enough es s f h = inr (act.Evict, 0, h.1, (Writes, refl))
follow w n o act.Evict j (reply.Shifted i) es s f h = inr (act.Evict, 0, h.1, (Evictions, refl))
follow w n o act.Evict j (reply.Evicted i) es s f h = inr (act.Evict, 0, h.1, (Evictions, refl))
follow w n o act.Evict j (reply.Rejected i) es s f h = inr (act.Evict, 0, h.1, (Evictions, refl))
follow w n o act.Evict j reply.Fits es s f h = inr (act.End, 0, h.1, (Evictions, refl, refl))
follow w n o act.End j reply.Idle es s f h = inl (h.1, refl)
follow w n o act.End j reply.Again es s f h = inl (h.1, refl)
follow w n o act.End j reply.NotYet es s f h = inl (h.1, ap (λ (b : Bool). cond b None s.at) f.2)
follow w n o (act.Lose st i) j r es s f h = absurd h
follow w n o a j r es s f h = absurd h.1

-- a walk begins with the act of its place
pub first_step : (w n : ℕ) (a : Act) (j : ℕ) (y : Entry Step Reply) (es : Entries) → IsWalkFrom w n a j (y ∷ es) → y.step ≡ step_of w a
first_step w n (act.Lose s i) j y es h = absurd h
first_step w n _ j y es h = h.0

pub not_over : (w n : ℕ) (a : Act) (j : ℕ) → IsWalkFrom w n a j [] → ⊥
not_over w n (act.Look k) j h = h
not_over w n _ j h = h

-- walks of which the first is under way
record Open (w n : ℕ) (s : Standing) (es : Entries) : Type 0 where
  next : Act
  drained : ℕ
  fits : ActFits n next s
  calls : List Call
  walk : Entries
  later : Entries
  is : es ≡ walk ++ later
  ahead : IsWalkFrom w n next drained walk
  more : AreWalks w n calls later

open_calls : (w n : ℕ) (cs : List Call) (es : Entries) (s : Standing) → s.at ≡ None → AreWalks w n cs es → (es ≡ [] → ⊥) → Open w n s es
open_calls w n [] es s free h ne = absurd (ne h)
open_calls w n (call.Read key ∷ cs) es s free h ne = record { next = act.Look key; drained = 0; fits = free; calls = cs; walk = h.0; later = h.1; is = h.2; ahead = h.3; more = h.4 }
open_calls w n (call.Remove key ∷ cs) es s free h ne = record { next = act.Remove key; drained = 0; fits = free; calls = cs; walk = h.0; later = h.1; is = h.2; ahead = h.3; more = h.4 }

advance_at : (w n : ℕ) → 1 ≤ n → (x : Entry Step Reply) (es : Entries) (s : Standing) (a : Act) (j : ℕ) (walk later : Entries) (cs : List Call) → ActFits n a s → x ∷ es ≡ walk ++ later → IsWalkFrom w n a j walk → AreWalks w n cs later
    → (es ≡ [] → ⊥) → Open w n (next_of s x.step.act x.reply) es
advance_at w n o x es s a j [] later cs f is h more ne = absurd (not_over w n a j h)
advance_at w n o x es s a j (y ∷ walk) later cs f is h more ne =
    let same : x ≡ y = cc in
    let rest : es ≡ walk ++ later = cc in
    let step : x.step ≡ step_of w a = ap (λ (e : Entry Step Reply). e.step) same ∙ first_step w n a j y walk h in
    let whole : y ≡ said w a x.reply = sym same ∙ ap (λ (t : Step). let e : Entry Step Reply = record { step = t; reply = x.reply } in e) step in
    let goes : Goes w n walk (next_of s a x.reply) = follow w n o a j x.reply walk s f (subst (λ (e : Entry Step Reply). IsWalkFrom w n a j (e ∷ walk)) whole h) in
    let here : Goes w n walk (next_of s x.step.act x.reply) = subst (λ (t : Step). Goes w n walk (next_of s t.act x.reply)) (sym step) goes in
    elim here [
      | inl over ↦ open_calls w n cs es (next_of s x.step.act x.reply) over.1 (subst (AreWalks w n cs) (sym (rest ∙ ap (λ l. l ++ later) over.0)) more) ne
      | inr q ↦ record { next = q.0; drained = q.1; fits = q.3; calls = cs; walk = walk; later = later; is = rest; ahead = q.2; more = more }
    ]

some_left : (own : Entries) (e : Entry Step Reply) (rest : Entries) → own ++ e ∷ rest ≡ [] → ⊥
some_left [] e rest h = absurd (cc (h))
some_left (x ∷ own) e rest h = absurd (cc (h))

first_fits : (w n : ℕ) → 1 ≤ n → (e : Entry Step Reply) (rest : Entries) (s : Standing) (a : Act) (j : ℕ) (walk later : Entries) → ActFits n a s → e ∷ rest ≡ walk ++ later → IsWalkFrom w n a j walk → ActFits n e.step.act s
first_fits w n o e rest s a j [] later f is h = absurd (not_over w n a j h)
first_fits w n o e rest s a j (y ∷ walk) later f is h =
    let same : e ≡ y = cc in
    let step : e.step ≡ step_of w a = ap (λ (e : Entry Step Reply). e.step) same ∙ first_step w n a j y walk h in
    subst (λ (t : Step). ActFits n t.act s) (sym step) f

-- the act after these entries fits where they led their worker
next_fits : (w n : ℕ) → 1 ≤ n → (own : Entries) (e : Entry Step Reply) (rest : Entries) (s : Standing) → Open w n s (own ++ e ∷ rest) → ActFits n e.step.act (standing s own)
next_fits w n o [] e rest s k = first_fits w n o e rest s k.next k.drained k.walk k.later k.fits k.is k.ahead
next_fits w n o (x ∷ own) e rest s k =
    next_fits w n o own e rest (next_of s x.step.act x.reply) (advance_at w n o x (own ++ e ∷ rest) s k.next k.drained k.walk k.later k.calls k.fits k.is k.ahead k.more (some_left own e rest))

pub walks_fit : (w n : ℕ) → 1 ≤ n → (cs : List Call) (own : Entries) (e : Entry Step Reply) (rest : Entries) (s : Standing) → s.at ≡ None → AreWalks w n cs (own ++ e ∷ rest) → ActFits n e.step.act (standing s own)
walks_fit w n o cs own e rest s free h = next_fits w n o own e rest s (open_calls w n cs (own ++ e ∷ rest) s free h (some_left own e rest))

-- after a whole walk its worker holds no maintenance
walk_free : (w n : ℕ) → 1 ≤ n → (a : Act) (j : ℕ) (es : Entries) (s : Standing) → ActFits n a s → IsWalkFrom w n a j es → (standing s es).at ≡ None
walk_free w n o a j [] s f h = absurd (not_over w n a j h)
walk_free w n o a j (y ∷ es) s f h =
    let step : y.step ≡ step_of w a = first_step w n a j y es h in
    let goes : Goes w n es (next_of s a y.reply) = follow w n o a j y.reply es s f (subst (λ (t : Step). IsWalkFrom w n a j (record { step = t; reply = y.reply } ∷ es)) step h) in
    let here : Goes w n es (next_of s y.step.act y.reply) = subst (λ (t : Step). Goes w n es (next_of s t.act y.reply)) (sym step) goes in
    elim here [
      | inl over ↦ subst (λ (l : Entries). (standing (next_of s y.step.act y.reply) l).at ≡ None) (sym over.0) over.1
      | inr q ↦ walk_free w n o q.0 q.1 es (next_of s y.step.act y.reply) q.3 q.2
    ]

call_free : (w n : ℕ) → 1 ≤ n → (c : Call) (es : Entries) (s : Standing) → s.at ≡ None → IsWalk w n c es → (standing s es).at ≡ None
call_free w n o (call.Read key) es s free h = walk_free w n o (act.Look key) 0 es s free h
call_free w n o (call.Remove key) es s free h = walk_free w n o (act.Remove key) 0 es s free h

standing_joined : (s : Standing) (xs ys : Entries) → standing s (xs ++ ys) ≡ standing (standing s xs) ys
standing_joined s [] ys = refl
standing_joined s (x ∷ xs) ys = standing_joined (next_of s x.step.act x.reply) xs ys

-- and so it is after whole walks
pub walks_free : (w n : ℕ) → 1 ≤ n → (cs : List Call) (es : Entries) (s : Standing) → s.at ≡ None → AreWalks w n cs es → (standing s es).at ≡ None
walks_free w n o [] es s free h = subst (λ (l : Entries). (standing s l).at ≡ None) (sym h) free
walks_free w n o (c ∷ cs) es s free h =
    ap (λ (l : Entries). (standing s l).at) h.2 ∙ ap (λ (t : Standing). t.at) (standing_joined s h.0 h.1)
    ∙ walks_free w n o cs h.1 (standing s h.0) (call_free w n o c h.0 s free h.3) h.4

-- one walk more
pub walks_more : (w n : ℕ) (cs : List Call) (c : Call) (xs ys : Entries) → AreWalks w n cs xs → IsWalk w n c ys → AreWalks w n (cs ++ c ∷ []) (xs ++ ys)
walks_more w n [] c xs ys h k = (ys, [], ap (λ l. l ++ ys) h ∙ sym (append-nil ys), k, refl)
walks_more w n (d ∷ cs) c xs ys h k = (h.0, h.1 ++ ys, ap (λ l. l ++ ys) h.2 ∙ append_assoc h.0 h.1 ys, h.3, walks_more w n cs c h.1 ys h.4 k)
