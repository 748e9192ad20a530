-- A trace that is fed piece by piece.
use Rattle.std.proofs.Common.{Bool, false, ◌≡◌, ℕ, ◌+◌, ◌≤◌, List, [], ◌++◌, length, take, drop, Option, Some, None, IfSome, sym, ap, subst, refl, ◌∙◌, arith, length-append}
use Rattle.std.proofs.Math.Seq.{drop-append_seam, take-add}
use Rattle.std.proofs.lemmas.List.{drop-take, append_cancel_right, take_all}
use Rattle.std.proofs.lemmas.Option.{IfSome_then}
use Rattle.engine_base.specs.declared.limits.TheConstants.{MAX_STEPS}
use Rattle.trace_read.proofs.Readings.{always, both}
use Rattle.trace_read.specs.Reading.{GivesNext}
use Rattle.sweeps.specs.Taking.{AreNext, CanTake, HasTakenAll}
use Rattle.long_traces.specs.Feed.{Format, HasBegun, IsFed, keys_in}

-- keys behind the beginning of a trace, with which it goes on
module _ (place : ℕ) (keys done trace : List ℕ) (long : length done ≡ place) (is : done ++ keys ≡ take (place + length keys) trace) where
  piece : keys ≡ take (length keys) (drop place trace)
  piece = sym (drop-append_seam done keys) ∙ ap (λ (n : ℕ). drop n (done ++ keys)) long ∙ ap (drop place) is ∙ drop-take place (length keys) trace

  front : done ≡ take place trace
  front = append_cancel_right done (take place trace) keys (is ∙ take-add place (length keys) trace ∙ ap (λ (l : List ℕ). take place trace ++ l) (sym piece))

module _ (format : Format) where
  more_known : (bytes : Option (List ℕ)) (place : ℕ) (done keys : List ℕ) → IfSome bytes (λ b. done ≡ take place (keys_in format b))
      → IfSome bytes (λ b. keys ≡ take (length keys) (drop place (keys_in format b))) → IfSome bytes (λ b. done ++ keys ≡ take (place + length keys) (keys_in format b))
  more_known bytes place done keys first next = both bytes first next (λ b f k.
      ap (λ (l : List ℕ). l ++ keys) f ∙ ap (λ (l : List ℕ). take place (keys_in format b) ++ l) k
      ∙ sym (take-add place (length keys) (keys_in format b)))

-- ---- accesses that wait until they are taken

-- they are those behind the first ones, where the bytes are known
abbrev pub AreWaiting : Format → Option (List ℕ) → ℕ → List ℕ → Type 0
AreWaiting format bytes place waiting = IfSome bytes (λ b. waiting ≡ take (length waiting) (drop place (keys_in format b)))

pub none_wait : (format : Format) (bytes : Option (List ℕ)) (place : ℕ) (waiting : List ℕ) → waiting ≡ [] → AreWaiting format bytes place waiting
none_wait format bytes place waiting none =
    always bytes (λ b. none ∙ ap (λ (l : List ℕ). take (length l) (drop place (keys_in format b))) (sym none))

module _ {K : Type 0} (H : List ℕ → ℕ → K → Type 0) (format : Format) (bytes : Option (List ℕ)) where
  -- nothing was fed
  pub begun : (taker : K) → HasBegun H taker → IsFed H format bytes 0 taker
  begun taker taken = record { done = []; long = refl; taken = λ trace within is. taken trace; first = always bytes (λ b. refl) }

  -- what was fed is a trace of its own, in which the keys come next
  pub ready : (place : ℕ) (keys : List ℕ) (old : K) → IsFed H format bytes place old → place + length keys ≤ MAX_STEPS → CanTake H keys old
  ready place keys old fed few =
      let e = length-append fed.done keys in
      let long = fed.long in
      let all : fed.done ++ keys ≡ take (place + length keys) (fed.done ++ keys) = sym (take_all (place + length keys) (fed.done ++ keys) (omega (arith, e, long))) in
      record {
        trace = fed.done ++ keys;
        place = place;
        next = record { within = omega (arith, e, long); piece = piece place keys fed.done (fed.done ++ keys) long all };
        few = omega (arith, e, long, few);
        taken = fed.taken (fed.done ++ keys) (omega (arith, e, long)) (front place keys fed.done (fed.done ++ keys) long all);
      }

  -- the keys were taken too
  pub more : (place : ℕ) (keys : List ℕ) (old new : K) → IsFed H format bytes place old → IfSome bytes (λ b. keys ≡ take (length keys) (drop place (keys_in format b)))
      → ((trace : List ℕ) (n : ℕ) → AreNext trace n keys → H trace n old → H trace (n + length keys) new) → IsFed H format bytes (place + length keys) new
  more place keys old new fed next moves =
      let e = length-append fed.done keys in
      let long = fed.long in
      record {
        done = fed.done ++ keys;
        long = omega (arith, e, long);
        taken = λ trace within is.
            moves trace place (record { within = within; piece = piece place keys fed.done trace long is })
            (fed.taken trace (omega (arith, within)) (front place keys fed.done trace long is));
        first = more_known format bytes place fed.done keys fed.first next;
      }

  -- what was taken is all of some trace
  pub taken_some : (place : ℕ) (taker : K) → IsFed H format bytes place taker → HasTakenAll H taker
  taken_some place taker fed =
      let long = fed.long in
      let all : fed.done ≡ take place fed.done = sym (take_all place fed.done (omega (arith, long))) in
      record { trace = fed.done; taken = subst (λ (n : ℕ). H fed.done n taker) (sym long) (fed.taken fed.done (omega (arith, long)) all) }

-- where no more come, it is all accesses of the bytes
pub taken_to_end : {K Task : Type 0} (H : Task → List ℕ → ℕ → K → Type 0) (format : Format) (bytes : Option (List ℕ)) (place : ℕ) (was taker : K)
    → IfSome bytes (λ b. place ≡ length (keys_in format b)) → ((task : Task) → HasBegun (H task) was → IsFed (H task) format bytes place taker)
    → IfSome bytes (λ b. (task : Task) → HasBegun (H task) was → H task (keys_in format b) (length (keys_in format b)) taker)
taken_to_end H format None place was taker long fed = tt
taken_to_end H format (Some b) place was taker long fed = λ task start.
    let all = keys_in format b in
    let is = fed task start in
    subst (λ (n : ℕ). H task all n taker) long (is.taken all (omega (arith, long)) is.first)

-- no more come behind so many
pub at_end : (format : Format) (bytes : Option (List ℕ)) (place n : ℕ) (keys : List ℕ) (more : Bool) → more ≡ false → keys ≡ [] → place ≡ n
    → GivesNext format bytes n more keys → IfSome bytes (λ b. place ≡ length (keys_in format b))
at_end format bytes place n keys more end none is gives = IfSome_then bytes (gives.last end) (λ b l. omega (arith, l, ap length none, is))
