use Rattle.std.proofs.Common.{rules, ◌∙◌, Ok, IfOk, get_or, map, vec_items, ap, sym, subst, arith}
use Rattle.turn_book.specs.Passes.{id_of}
use Rattle.library_examples.specs.LogLines.{IsWritten, Wrote}
use Rattle.library_examples.proofs.Gathered.{WroteAll, job_at, books_of, order_of, written_of}
use Rattle.library_examples.proofs.writers.write_log.Goals as goal
use Rattle.library_examples.proofs.writers.write_log.Goals.{In_ok-passes-2}

wrote_all : (g : _) (c : In_ok-passes-2 g) → WroteAll (id_of c.in-Ok.book) c.args.lines c.args.workers c.in_ok-passes-2.passes.items c.in_ok-passes-2.lists.items
wrote_all g c =
    let jobs = c.in_ok-passes.ensures in
    let results = c.in_ok-results.ensures in
    let parts = c.in_ok-passes-2.ensures in
    let many = jobs.len in
    let same = results.len in
    let lens = parts.len in
    record {
      passes = omega arith;
      lists = omega arith;
      each = λ i p l lt.
          let gives = (results.each i (Ok (p, l)) (omega arith)).1 in
          let number = ap (λ j. j.0) (gives.job_read ∙ jobs.each i gives.job lt) in
          subst (λ r. IfOk r (λ r. Wrote (id_of c.in-Ok.book) c.args.lines i r.0 r.1)) (parts.each i p l (omega arith))
          (subst (λ k. IfOk (get_or c.in_ok-results.results.items i (Ok (p, l))) (λ r. Wrote (id_of c.in-Ok.book) c.args.lines k r.0 r.1)) number gives.call.met);
    }

pub map_vec-requires-after_bounds : goal.map_vec-requires-after_bounds
map_vec-requires-after_bounds g c κs within = λ i j lt is.
    let opened = c.in-Ok.ensures in
    let jobs = c.in_ok-passes.ensures in
    let many = jobs.len in
    let job = job_at (id_of c.in-Ok.book) _ c.in-Ok.passes.items i j (omega arith) (is ∙ jobs.each i j (omega arith)) opened.own opened.all.0 opened.fresh in
    ((job.0, job.1, omega arith), search rules)

pub close-log-requires-clause-own : goal.close-log-requires-clause-own
close-log-requires-clause-own g c = books_of _ _ _ _ _ c.args.log (wrote_all g c)

pub close-log-requires-clause-all : goal.close-log-requires-clause-all
close-log-requires-clause-all g c =
    let opened = c.in-Ok.ensures.opens in
    let wrote = wrote_all g c in
    (order_of _ _ _ _ _ c.args.log wrote, wrote.passes ∙ sym opened.1)

pub returns : goal.returns
returns g c =
    subst (λ o. IsWritten c.args.workers c.args.lines o c.close-log.result (map (λ l. vec_items l) c.in_ok-passes-2.lists.items)) c.in-Ok.ensures.opens.0
    (written_of _ _ _ _ _ _ (wrote_all g (goal.at.returns g c).In_ok-passes-2) _ c.close-log.ensures)
