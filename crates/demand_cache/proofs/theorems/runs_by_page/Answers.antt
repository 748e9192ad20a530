use Rattle.demand_cache.proofs.Keeping.{pages-sound, runs-by-page}
use Rattle.demand_cache.proofs.theorems.runs_by_page.Goals as goal

pub returns : goal.returns
returns c = runs-by-page pages-sound
