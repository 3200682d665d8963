use Rattle.lower_aggregates.proofs.Viewing.{named_once, component_known, known_component}
use Rattle.lower_aggregates.proofs.ground_tables.pieces_are_known_by_name.Goals as goal

pub returns-clause-once : goal.returns-clause-once
returns-clause-once c = λ holder m has once. named_once holder m has.components once

pub returns-clause-components : goal.returns-clause-components
returns-clause-components c = λ m pieces entries are knows once. component_known m pieces entries are knows once

pub returns-clause-only : goal.returns-clause-only
returns-clause-only c = λ m pieces entries are knows. known_component m pieces entries are knows
