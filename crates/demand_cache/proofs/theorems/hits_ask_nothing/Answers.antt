use Rattle.demand_cache.proofs.Keeping.{pages-sound, hits-ask-nothing}
use Rattle.demand_cache.proofs.theorems.hits_ask_nothing.Goals as goal

pub returns : goal.returns
returns c = hits-ask-nothing pages-sound
