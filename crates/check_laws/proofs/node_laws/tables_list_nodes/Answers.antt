use Rattle.check_laws.proofs.Tables.{table_lists}
use Rattle.check_laws.proofs.Once.{circuit_has, circuit_once}
use Rattle.check_laws.proofs.Faultless.{table_typed}
use Rattle.check_laws.proofs.node_laws.tables_list_nodes.Goals as goal

pub returns-clause-types : goal.returns-clause-types
returns-clause-types c = table_lists

pub returns-clause-faultless : goal.returns-clause-faultless
returns-clause-faultless c = table_typed

pub returns-clause-nodes : goal.returns-clause-nodes
returns-clause-nodes c = circuit_has

pub returns-clause-once : goal.returns-clause-once
returns-clause-once c = circuit_once
