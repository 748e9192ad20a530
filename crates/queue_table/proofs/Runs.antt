-- Runs: a turn, and any number of them.
use Rattle.std.proofs.lemmas.Bool.Decides.{nat_tests}
use Rattle.std.proofs.Common.{◌≡◌, ℕ, suc, zero, ◌+◌, ◌-◌, ◌<◌, ◌≤◌, true, false, nat_lt, Some, None, [], ◌∷◌, ap, ◌∙◌, sym, subst, refl, arith, inl, inr}
use Rattle.std.proofs.lemmas.Bool.{cases_Bool}
use Rattle.queue_table.specs.declared.records.Entry.{Entry}
use Rattle.queue_table.specs.Entries.{entry, entries_without, oldest_of, newest_of}
use Rattle.queue_table.specs.Queues.{QUEUES, Queues, after_removal, after_send, after_return}
use Rattle.queue_table.proofs.Items.{newest-append}
use Rattle.queue_table.proofs.QueueLists.{with-queue-same}
use Rattle.queue_table.specs.Moves.{Entry, run, turned, after_turn, after_turns, turns_due, count_or}
use Rattle.queue_table.specs.Undoing.{HasCountLeft, FitTurns, turned_back, before_turn, before_turns, IsTurn, IsRun}
use Rattle.queue_table.specs.Tabled.{IsTabled}
use Rattle.queue_table.proofs.Laws.{oldest_stands, sent-back, no-front}

-- ---- a turn

-- the slot of the oldest has the entry x
module _ (e x : Entry) (from to less m : ℕ) (s : Queues) (t : IsTabled s) (w : from < QUEUES) (first : oldest_of (s from) ≡ Some e)
    (lower : m + less ≡ e.count) (bound : e.count < 256) (slot : x ≡ e) (u : Queues) (made : u ≡ after_send (entry x.item m) to s) where
  hu : u ≡ after_send (entry e.item m) to s
  hu = made ∙ ap (λ (y : Entry). after_send (entry y.item m) to s) slot

  newest-is : newest_of (u to) ≡ Some (entry e.item m)
  newest-is = search (arith, hu, with-queue-same, newest-append None (entries_without e.item (s to)) (entry e.item m ∷ []))

  pub turn-made : IsTurn from to less s u
  turn-made =
      let count_is : m ≡ e.count - less = omega (arith, lower) in
      record {
        after = hu ∙ ap (λ y. after_send (entry e.item y) to s) count_is ∙ sym (ap (λ y. turned to less y s) first);
        fits = subst (HasCountLeft less) (sym newest-is) (let low : m + less < 256 = omega (arith, lower, bound) in low);
        undone = ap (λ y. turned_back from less y u) newest-is
            ∙ ap (λ y. after_return from None (entry e.item y) (after_removal e.item u)) lower
            ∙ ap (λ y. after_return from None e (after_removal e.item y)) hu
            ∙ ap (λ o. after_return from o e (after_removal e.item (after_send (entry e.item m) to s))) (sym (no-front e (s from) first))
            ∙ sent-back e s t (oldest_stands e from s w first) to m;
      }

-- ---- any number of turns

-- so many turns took the queues from s to u, of the n that may be made
pub record IsRunning (from to less least n times : ℕ) (s u : Queues) : Type 0 where
  pub within : times ≤ n
  pub after : (rest : ℕ) → after_turns (times + rest) from to less s ≡ after_turns rest from to less u
  pub due : turns_due n from to less least s ≡ times + turns_due (n - times) from to less least u
  pub fits : FitTurns times from to less u
  pub undone : before_turns times from to less u ≡ s

pub no-due : (m from to less least : ℕ) (u : Queues) → nat_lt (count_or 0 (oldest_of (u from))) least ≡ true → turns_due m from to less least u ≡ 0
no-due v from to less least u h = grind (arith, nat_tests)

-- a run that made fewer turns than it may has stopped at a key whose count is low
pub turns-stop : (n from to less least : ℕ) (s : Queues) → turns_due n from to less least s < n
    → nat_lt (count_or 0 (oldest_of (after_turns (turns_due n from to less least s) from to less s from))) least ≡ true
turns-stop zero from to less least s w = absurd (omega (arith, w))
turns-stop (suc n) from to less least s w =
    elim (cases_Bool (nat_lt (count_or 0 (oldest_of (s from))) least)) [
      | inl low ↦ rw low low
      | inr high ↦
          let less_due : turns_due n from to less least (after_turn from to less s) < n =
          (let v : suc (turns_due n from to less least (after_turn from to less s)) < suc n = rw high at w in omega (arith, v)) in
          rw high (turns-stop n from to less least (after_turn from to less s) less_due)
    ]

pub runs-on : (from to less least n times : ℕ) (s u v : Queues) → IsRunning from to less least n times s u → times < n
    → nat_lt (count_or 0 (oldest_of (u from))) least ≡ false → IsTurn from to less u v → IsRunning from to less least n (times + 1) s v
runs-on from to less least n times s u v h w some t =
    let next : times + 1 ≡ suc times = omega arith in
    subst (λ x. IsRunning from to less least n x s v) (sym next) record {
      within = omega (arith, w);
      after = λ rest.
          let e : suc times + rest ≡ times + suc rest = omega arith in
          ap (λ x. after_turns x from to less s) e ∙ h.after (suc rest) ∙ ap (after_turns rest from to less) (sym t.after);
      due =
          let left : n - times ≡ suc (n - suc times) = omega (arith, w) in
          let step = h.due ∙ ap (λ x. times + turns_due x from to less least u) left
          ∙ ap (λ x. times + x) ((rw some refl) ∙ ap (λ x. suc (turns_due (n - suc times) from to less least x)) (sym t.after)) in
          step ∙ omega arith;
      fits = (t.fits, subst (FitTurns times from to less) (sym t.undone) h.fits);
      undone = ap (before_turns times from to less) t.undone ∙ h.undone;
    }

pub run-ends : (from to less least n times : ℕ) (s u : Queues) → from < QUEUES → to < QUEUES → IsRunning from to less least n times s u
    → turns_due (n - times) from to less least u ≡ 0
    → (run from to less times ≡ run from to less (turns_due n from to less least s)) × IsRun (run from to less times) s u
run-ends from to less least n times s u wf wt h none = (
  ap (run from to less) (let all = h.due in omega (arith, all, none)),
  record {
    after = sym (let e : times + 0 ≡ times = omega arith in sym (ap (λ x. after_turns x from to less s) e) ∙ h.after 0);
    fits = record { from = wf; to = wt; counts = h.fits };
    undone = h.undone;
  },
)

-- ---- back

-- n of all turns are undone: what is left leads to the same queues
pub record IsBack (from to less all n : ℕ) (s u : Queues) : Type 0 where
  pub fits : FitTurns (all - n) from to less u
  pub back : before_turns (all - n) from to less u ≡ before_turns all from to less s

pub turns-fit-next : (from to less all n : ℕ) (u : Queues) → n < all → FitTurns (all - n) from to less u
    → HasCountLeft less (newest_of (u to)) × FitTurns (all - (n + 1)) from to less (before_turn from to less u)
turns-fit-next from to less all n u w h =
    let e : all - n ≡ suc (all - (n + 1)) = omega (arith, w) in
    subst (λ x. FitTurns x from to less u) e h

pub turns-back-next : (from to less all n : ℕ) (s u v : Queues) → n < all → IsBack from to less all n s u → v ≡ before_turn from to less u
    → IsBack from to less all (n + 1) s v
turns-back-next from to less all n s u v w h e =
    let left : all - n ≡ suc (all - (n + 1)) = omega (arith, w) in
    grind (arith, nat_tests, turns-fit-next)
