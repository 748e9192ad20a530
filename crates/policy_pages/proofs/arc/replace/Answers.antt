use Rattle.policy_pages.proofs.arc.replace.Goals as goal

pub returns-then-t1_gives-clause-others : goal.returns-then-t1_gives-clause-others
returns-then-t1_gives-clause-others g c = λ j e held t1 t2. c.send_oldest.ensures.others j e held t1

pub returns-else-t1_gives-clause-others : goal.returns-else-t1_gives-clause-others
returns-else-t1_gives-clause-others g c = λ j e held t1 t2. c.send_oldest-else-t1_gives.ensures.others j e held t2
