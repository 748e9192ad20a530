-- An Evict takes one item out of a window that is over its size.
use Rattle.std.proofs.Common.{◌≡◌, ℕ, ◌+◌, ◌<◌, ◌≤◌, true, List, length, refl, arith}
use Rattle.std.proofs.lemmas.Bool.{ltb-true, ltb-false}
use Rattle.engine_base.specs.declared.step.Act.TheVariants as a
use Rattle.segments.specs.declared.records.Queue.TheVariants.{Probation}
use Rattle.segments.specs.Items.{Item, occurrences, items_without}
use Rattle.segments.specs.Queues.{IsDistinct}
use Rattle.segments.proofs.QueueLists.{times-gone, length-without}
use Rattle.shell_model.specs.Shell.{Reply, Shell, window_size, is_over}
use Rattle.shell_model.specs.ShellEviction.{shift_effect, IsCandidate, IsVictim}
use Rattle.shell_model.specs.ShellSteps as k
use Rattle.shell_model.specs.ShellSteps.{Makes, Steps}
use Rattle.shell_model.specs.Laws.{MadeStep}
use Rattle.shell_model.proofs.Making.{stepped}
use Rattle.replacement.proofs.Counting.{distinct-moved}
use Rattle.shell_model.proofs.Undoing.{sound-distinct, first-queued}
use Rattle.shell_model.proofs.Reached.{reached-sound}
use Rattle.shell_laws.specs.Evictions.{IsEvictStep, EvictionLaw}

-- the candidate leaves the window, in which it stands once
shifted-shorter : (c : Item) (x : Shell) → IsDistinct x.queues → IsCandidate c x → length x.queues.window ≡ length (items_without c x.queues.window) + 1
shifted-shorter c x d h =
    let there : 1 ≤ occurrences c x.queues.window = first-queued c x.queues.window h.oldest in
    let once = d c in
    omega (arith, there, once, length-without c x.queues.window)

-- an item that is not in the window leaves
leave-shorter : (v : Item) (l : List Item) (n : ℕ) → occurrences v l ≡ 0 → n ≡ length l + 1 → n ≡ length (items_without v l) + 1
leave-shorter v l n o h = omega (arith, h, o, length-without v l)

-- the victim stands in probation, so not in the window
victim-out : (c v : Item) (x : Shell) → IsDistinct x.queues → IsVictim v (shift_effect c x) → occurrences v (items_without c x.queues.window) ≡ 0
victim-out c v x d k =
    let there : 1 ≤ occurrences v (shift_effect c x).queues.probation = first-queued v (shift_effect c x).queues.probation k.oldest in
    let once = distinct-moved c Probation x.queues d v in
    omega (arith, there, once)

not-within : (x : Shell) → is_over x ≡ true → length x.queues.window ≤ window_size x.config → ⊥
not-within x o h = let above : window_size x.config < length x.queues.window = ltb-true (window_size x.config) (length x.queues.window) o in omega (arith, above, h)

evict-step : (x : Shell) (w : ℕ) (r : Reply) (y : Shell) → IsDistinct x.queues → Makes w x a.Evict r y → IsEvictStep x r y
evict-step x w r y d (k.fits h f i) = record {
  over = λ n. (let within : length x.queues.window ≤ window_size x.config = ltb-false (window_size x.config) (length x.queues.window) i in absurd (omega (arith, within, n)));
  fits = λ n. (refl, refl);
}
evict-step x w r y d (k.shifted h c f o i) = record {
  over = λ n. ((λ f. cc f), shifted-shorter c x d o);
  fits = λ n. absurd (not-within x o.over n);
}
evict-step x w r y d (k.evicted h c v f o l i g) = record {
  over = λ n. ((λ f. cc f), leave-shorter v (items_without c x.queues.window) (length x.queues.window) (victim-out c v x d l) (shifted-shorter c x d o));
  fits = λ n. absurd (not-within x o.over n);
}
evict-step x w r y d (k.rejected h c v f o l i) = record {
  over = λ n. ((λ f. cc f), leave-shorter c (items_without c x.queues.window) (length x.queues.window) (times-gone c x.queues.window) (shifted-shorter c x d o));
  fits = λ n. absurd (not-within x o.over n);
}

pub eviction-law : EvictionLaw
eviction-law x y w r h e =
    let s : MadeStep = record { step = record { worker = w; act = a.Evict }; reply = r } in
    let t : Steps x s y = stepped x s y e in
    let v : IsEvictStep x r t.left = evict-step x w r t.left (sound-distinct x (reached-sound x h)) t.made in
    rw t.is record { over = v.over; fits = v.fits }
