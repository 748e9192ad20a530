use Rattle.std.proofs.Common.{◌≡◌, length}
use Rattle.queue_cache.specs.Window.{IsWindow}
use Rattle.queue_cache.proofs.reuses.Reuses.stats.Given as goal

abbrev pub invariant-loop-place : goal.invariant-loop-place
invariant-loop-place l = record {
  end : l.place-end ≡ length l.self;
  capacity : l.window.capacity ≡ l.capacity;
  window : IsWindow l.self l.place l.window;
}
