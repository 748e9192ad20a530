use Rattle.engine_base.proofs.Machine.{residents-counted}
use Rattle.policy_pages.specs.PolicyPage.{page_machine}
use Rattle.policy_pages.proofs.Residents.{page-keeps}
use Rattle.demand_cache.specs.DemandPolicy.{page_of}
use Rattle.demand_cache.proofs.Keeping.{pages-sound}
use Rattle.demand_cache.proofs.theorems.pages_are_sound.Goals as goal

pub returns : goal.returns
returns c = record {
  sound = pages-sound;
  counts = λ p n h. residents-counted n (page_machine (page_of p) n) (page-keeps (page_of p) n ((pages-sound p).keeps n h));
}
