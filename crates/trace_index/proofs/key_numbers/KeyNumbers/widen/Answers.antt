use Rattle.std.proofs.Common.{◌∙◌, ap, get_or}
use Rattle.trace_index.proofs.KeyCells.{moved-on}
use Rattle.trace_index.proofs.key_numbers.KeyNumbers.widen.Goals as goal

pub loop-place-preserved : goal.loop-place-preserved
loop-place-preserved c =
    let inv = c.loop-place.invariant in
    record {
      cells = inv.cells;
      end = inv.end;
      moved = λ k. moved-on _ _ c.loop-place.place k c.cell-key.result.0 c.cell-key.result.1 _ _ _
          (ap (λ r. r.0) c.cell-key.ensures ∙ ap (λ cells. get_or cells.0 c.loop-place.place 0) inv.cells)
          (ap (λ r. r.1) c.cell-key.ensures ∙ ap (λ cells. get_or cells.1 c.loop-place.place 0) inv.cells)
          (c.in_ok-move_cell.ensures k) (inv.moved k);
    }
