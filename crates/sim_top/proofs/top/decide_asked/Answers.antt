use Rattle.std.proofs.Common.{subst}
use Rattle.asked_texts.specs.Commands.{IsInRange, question}
use Rattle.sim_top.specs.Needing.{the_joined}
use Rattle.asked_texts.specs.declared.words.Asked.{Asked}
use Rattle.sim_top.proofs.top.decide_asked.Goals as goal

pub returns-in-Joined-clause-answers : goal.returns-in-Joined-clause-answers
returns-in-Joined-clause-answers g c = rw c.in-Joined.is c.decide_joined.ensures.answers

pub returns-in-Joined-clause-fault : goal.returns-in-Joined-clause-fault
returns-in-Joined-clause-fault g c = rw c.in-Joined.is (λ e. (_, the_joined _ _, c.decide_joined.ensures.fault e))

pub returns-in-Two-clause-answers : goal.returns-in-Two-clause-answers
returns-in-Two-clause-answers g c = rw c.in-Two.is c.decide_two.ensures.answers

pub returns-in-Two-clause-fault : goal.returns-in-Two-clause-fault
returns-in-Two-clause-fault g c = rw c.in-Two.is c.decide_two.ensures.fault

pub decide_joined-requires : goal.decide_joined-requires
decide_joined-requires g c = subst (λ (a : Asked). IsInRange (question a)) c.in-Joined.is c.requires.in_range

pub decide_made-requires-clause-cycles : goal.decide_made-requires-clause-cycles
decide_made-requires-clause-cycles g c κs within = (subst (λ (a : Asked). IsInRange (question a)) c.in-Made.is c.requires.in_range).0

pub decide_made-requires-clause-size : goal.decide_made-requires-clause-size
decide_made-requires-clause-size g c κs within = (subst (λ (a : Asked). IsInRange (question a)) c.in-Made.is c.requires.in_range).1

pub returns-in_ok-reply-in-Made-clause-answers : goal.returns-in_ok-reply-in-Made-clause-answers
returns-in_ok-reply-in-Made-clause-answers g c = λ texts held. rw c.in-Made.is (c.in_ok-reply-in-Made.ensures.answers texts)

pub returns-in-State-clause-answers : goal.returns-in-State-clause-answers
returns-in-State-clause-answers g c = rw c.in-State.is c.decide_state.ensures.answers

pub returns-in-State-clause-fault : goal.returns-in-State-clause-fault
returns-in-State-clause-fault g c = rw c.in-State.is c.decide_state.ensures.fault
