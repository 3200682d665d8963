-- The faults of a circuit's types, and which is the first (FIRRTL specification 3.0, "Types", "Connects", "Expressions").
use Rattle.std.specs.Prelude.{ℕ, List, Option, Some, None, Contains, codes}
use Rattle.place_text.specs.declared.place.Place.{Place}
use Rattle.place_text.specs.First.{IsFirst as IsFirstOf}
use Rattle.fir_tree.specs.declared.circuit.Circuit.{Circuit}
use Rattle.type_check.specs.declared.fault.TypeFault.{TypeFault}
use Rattle.type_check.specs.declared.fault.TypeFault.TheVariants.{FieldTwice, FieldUnknown, NotBundle, NotVector, IndexRange, IndexKind, OperandKind, NotEquivalent, FlowSink, FlowSource, ConditionKind, NotPassive, LiteralFit, MemoryField, NoMemory}
use Rattle.type_check.specs.Statements.{faults_of}

-- the circuit has this fault
abbrev pub IsFault : Circuit → TypeFault → Type 0
IsFault circuit fault = Contains (faults_of circuit) fault

-- where a fault stands; want of memory stands nowhere
abbrev pub place_of : TypeFault → Option Place
place_of (FieldTwice place) = Some place
place_of (FieldUnknown place) = Some place
place_of (NotBundle place) = Some place
place_of (NotVector place) = Some place
place_of (IndexRange place) = Some place
place_of (IndexKind place) = Some place
place_of (OperandKind place) = Some place
place_of (NotEquivalent place) = Some place
place_of (FlowSink place) = Some place
place_of (FlowSource place) = Some place
place_of (ConditionKind place) = Some place
place_of (NotPassive place) = Some place
place_of (LiteralFit place) = Some place
place_of (MemoryField place) = Some place
place_of NoMemory = None

-- the order of faults at one place
abbrev pub rank_of : TypeFault → ℕ
rank_of (FieldTwice place) = 0
rank_of (FieldUnknown place) = 1
rank_of (NotBundle place) = 2
rank_of (NotVector place) = 3
rank_of (IndexRange place) = 4
rank_of (IndexKind place) = 5
rank_of (OperandKind place) = 6
rank_of (NotEquivalent place) = 7
rank_of (FlowSink place) = 8
rank_of (FlowSource place) = 9
rank_of (ConditionKind place) = 10
rank_of (NotPassive place) = 11
rank_of (LiteralFit place) = 12
rank_of (MemoryField place) = 13
rank_of NoMemory = 14

-- the name of a fault's kind
abbrev pub kind_of : TypeFault → List ℕ
kind_of (FieldTwice place) = codes "FieldTwice"
kind_of (FieldUnknown place) = codes "FieldUnknown"
kind_of (NotBundle place) = codes "NotBundle"
kind_of (NotVector place) = codes "NotVector"
kind_of (IndexRange place) = codes "IndexRange"
kind_of (IndexKind place) = codes "IndexKind"
kind_of (OperandKind place) = codes "OperandKind"
kind_of (NotEquivalent place) = codes "NotEquivalent"
kind_of (FlowSink place) = codes "FlowSink"
kind_of (FlowSource place) = codes "FlowSource"
kind_of (ConditionKind place) = codes "ConditionKind"
kind_of (NotPassive place) = codes "NotPassive"
kind_of (LiteralFit place) = codes "LiteralFit"
kind_of (MemoryField place) = codes "MemoryField"
kind_of NoMemory = codes "NoMemory"

-- the fault that is told: no other one comes before it
abbrev pub IsFirst : Circuit → TypeFault → Type 0
IsFirst circuit = IsFirstOf place_of rank_of (IsFault circuit)
