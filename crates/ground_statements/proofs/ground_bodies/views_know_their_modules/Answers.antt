use Rattle.ground_statements.proofs.Views.{narrow_view, known_types, typed_view, knows_view, one_to_one, number_at}
use Rattle.ground_statements.proofs.ground_bodies.views_know_their_modules.Goals as goal

pub returns-clause-narrow : goal.returns-clause-narrow
returns-clause-narrow c = narrow_view

pub returns-clause-types : goal.returns-clause-types
returns-clause-types c = known_types

pub returns-clause-typed : goal.returns-clause-typed
returns-clause-typed c = typed_view

pub returns-clause-knows : goal.returns-clause-knows
returns-clause-knows c = knows_view

pub returns-clause-once : goal.returns-clause-once
returns-clause-once c = one_to_one

pub returns-clause-numbers : goal.returns-clause-numbers
returns-clause-numbers c = number_at
