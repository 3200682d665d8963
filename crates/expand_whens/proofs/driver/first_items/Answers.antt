use Rattle.expand_whens.proofs.Choices.{choice_alone, choice_guarded}
use Rattle.expand_whens.proofs.driver.first_items.Goals as goal

pub returns-in_ok-items-in-None : goal.returns-in_ok-items-in-None
returns-in_ok-items-in-None c = rw c.in_ok-items-in-None.ensures.items (choice_alone _ _ _ c.in-None.is)

pub returns-in_ok-push_pair-in-Some : goal.returns-in_ok-push_pair-in-Some
returns-in_ok-push_pair-in-Some c = choice_guarded _ _ _ _ _ c.in_ok-items-in-Some.items.items c.push_pair.new.items.items c.in-Some.is c.otherwise.ensures c.in_ok-items-in-Some.ensures.items c.in_ok-push_pair-in-Some.ensures
