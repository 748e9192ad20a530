-- The interval that is not over, and those before it.
use Rattle.std.proofs.Common.{◌≡◌, ◌∙◌, ℕ, suc, ◌+◌, ◌*◌, ◌<◌, ◌≤◌, Option, Some, None, IfSome, List, [], ◌∷◌, ◌++◌, length, take, drop, refl, sym, ap, arith, append-nil, length-drop, length-take, length-take-le}
use Rattle.std.specs.Int.{div_ceil}
use Rattle.std.specs.Option.{option_to_list, MatchOption}
use Rattle.std.proofs.lemmas.List.{take_all}
use Rattle.engine_base.specs.Stats.{stats_of}
use Rattle.policies.specs.AnyPolicy.{Stats, Outcome, outcomes_on, stats_in}
use Rattle.policies.proofs.FirstAccesses.{first-counts}
use Rattle.policies.proofs.StepLaws.{any_covers_trace}
use Rattle.sweeps.specs.Intervals.{Interval, Job, between, first_intervals, intervals_on, IsLater}
use Rattle.sweeps.specs.CurrentInterval.{AnyPolicy, AreMade, CurrentInterval, IsAdvanced, IsIntervalTo, over_with}
use Rattle.sweeps.proofs.Covers.{next-times}
use Rattle.sweeps.proofs.Counts.{between-counts, later-counts}
use Rattle.sweeps.proofs.Pieces.{piece-more}

module _ {job : Job} {every : ℕ} {trace : List ℕ} {done n m : ℕ} {cache : AnyPolicy} {interval : CurrentInterval}
    (made : AreMade job every trace done n m cache interval) where
  abbrev os : List Outcome
  os = outcomes_on job trace

  -- what two counts say of it, where the accesses that were made are its last ones
  module _ (begun : done * every < m) (end : take m os ≡ take ((done + 1) * every) os) (after : Stats) (is : after ≡ stats_in cache) where
    counted : after ≡ stats_of (take m os)
    counted = is ∙ first-counts job trace m cache made.stands

    long : length os ≡ length trace
    long = any_covers_trace job trace

    both : after ≡ stats_of (take (done * every) os ++ take every (drop (done * every) os))
    both = counted ∙ ap stats_of (end ∙ piece-more every done os)

    row : IsLater interval.before after × IsIntervalTo job every trace done m (between job interval.before after)
    row = (
      rw (made.current.before, both) (later-counts (take (done * every) os) (take every (drop (done * every) os))
          (omega (arith, begun, made.within, long, made.current.used, length-take every (drop (done * every) os), length-drop (done * every) os))),
      record {
        is = rw (
          made.current.before,
          both,
          between-counts job (take (done * every) os) (take every (drop (done * every) os)),
          length-take-le (done * every) os (omega (arith, begun, made.within, long)),
        ) refl;
        last = ap (λ (s : Stats). s.accesses) counted ∙ length-take-le m os (omega (arith, made.within, long));
      },
    )

  pub ended : (after : Stats) → after ≡ stats_in cache → n + every ≤ m + interval.used → IsLater interval.before after
      × IsAdvanced job every trace done m cache (Some (between job interval.before after)) (record { every = interval.every; used = 0; before = after })
  ended after is full =
      let next : suc done * every ≡ m = omega (arith, next-times done every, full, made.fits, made.current.place) in
      let end : take m os ≡ take ((done + 1) * every) os = ap (λ (k : ℕ). take k os) (omega (arith, next)) in
      let two = row (omega (arith, full, made.current.place, made.current.used)) end after is in (
        two.0,
        record {
          over = two.1;
          current = record {
            size = made.current.size;
            used = omega (arith, made.current.used);
            place = omega (arith, next);
            before = is ∙ first-counts job trace m cache made.stands ∙ ap (λ (k : ℕ). stats_of (take k os)) (sym next);
            within = made.within;
            stands = made.stands;
          };
        },
      )

  pub last-row : (after : Stats) → after ≡ stats_in cache → m ≡ length trace → done * every < m
      → IsLater interval.before after × IsIntervalTo job every trace done m (between job interval.before after)
  last-row after is all begun =
      let long = any_covers_trace job trace in
      let fits : m ≤ (done + 1) * every = omega (arith, made.fits, made.current.place, next-times done every) in
      row begun (take_all m os (omega (arith, all, long)) ∙ sym (take_all ((done + 1) * every) os (omega (arith, all, long, fits)))) after is

-- ---- the rows

-- with that of an interval that is over, if one is
pub over-more : (job : Job) (every : ℕ) (trace : List ℕ) (done m : ℕ) (over : Option Interval) → IfSome over (IsIntervalTo job every trace done m)
    → first_intervals job every (outcomes_on job trace) done ++ option_to_list over
    ≡ first_intervals job every (outcomes_on job trace) (over_with done over)
over-more job every trace done m None is = append-nil (first_intervals job every (outcomes_on job trace) done)
over-more job every trace done m (Some i) is =
    ap (λ (x : Interval). first_intervals job every (outcomes_on job trace) done ++ x ∷ []) is.is

pub slice-is : {X : Type 0} (o : Option X) (slice : List X) → MatchOption o (slice ≡ []) (λ x. slice ≡ x ∷ []) → slice ≡ option_to_list o
slice-is None slice is = is
slice-is (Some x) slice is = is

-- all of them, with that of the last interval, if it is shorter
pub all-rows : (job : Job) (every : ℕ) (trace : List ℕ) (done m : ℕ) (last : Option Interval) → IfSome last (IsIntervalTo job every trace done m)
    → div_ceil (length trace) every ≡ over_with done last
    → intervals_on job every trace ≡ first_intervals job every (outcomes_on job trace) done ++ option_to_list last
unfolding intervals_on
all-rows job every trace done m last is many =
    ap (first_intervals job every (outcomes_on job trace)) many ∙ sym (over-more job every trace done m last is)
