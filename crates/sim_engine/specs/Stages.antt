-- The circuit's text, stage by stage: its tokens, its layout, its grammar (FIRRTL specification 3.0, "FIRRTL Language
-- Definition"), its names ("Namespaces"), its types ("Types", "Expressions", "Connects"), its size, its widths ("Width Inference"),
-- its driven leaves ("Initialization" under "Conditionals"), its clocks ("Clock" under "Ground Types") and its loops
-- ("Combinational Loops"). Each stage has a record that says what the text is where it passes the stage, and that holds the record
-- of the stage before it. So a stage judges only what all stages before it let pass. From the types on a stage judges the tree in which
-- each `Reset` of the circuit is resolved ("Reset Type").
use Rattle.std.specs.Prelude.{◌≡◌, ◌⊎◌, ℕ, List, Some}
use Rattle.place_text.specs.declared.place.Place.{Place}
use Rattle.place_text.specs.Places.{place}
use Rattle.place_text.specs.First.{IsFirst, HasNone}
use Rattle.fir_lexer.specs.declared.token.Token.{Token}
use Rattle.fir_lexer.specs.declared.fault.LexFault.{LexFault}
use Rattle.fir_lexer.specs.Tokens.{AreTokens, IsFault as IsTokenFault}
use Rattle.fir_layout.specs.Layout.{IsLaidOut, IsBadIndent, tokens_in}
use Rattle.fir_layout.specs.Pieces.{pieces_of}
use Rattle.fir_layout.specs.declared.laid.Laid.{Laid}
use Rattle.fir_layout.specs.declared.fault.LayoutFault.TheVariants.{BadIndent}
use Rattle.fir_grammar.specs.Grammar.{IsCircuit}
use Rattle.fir_grammar.specs.Faults.{FaultOf, IsDeepAt}
use Rattle.fir_tree.specs.declared.circuit.Circuit.{Circuit}
use Rattle.fir_tree.specs.declared.scope.Checked.{Checked}
use Rattle.fir_tree.specs.declared.scope.Fitted.{Fitted}
use Rattle.fir_tree.specs.declared.fault.ParseFault.{ParseFault}
use Rattle.fir_names.specs.Faults.{IsFault as IsNameFault, IsFirst as IsFirstOfNames}
use Rattle.fir_names.specs.declared.fault.NameFault.{NameFault}
use Rattle.reset_search.specs.Resolved.{IsResolved}
use Rattle.type_check.specs.Faults.{IsFault as IsTypeFault, IsFirst as IsFirstOfTypes}
use Rattle.type_check.specs.declared.fault.TypeFault.{TypeFault}
use Rattle.size_check.specs.Faults.{place_of as place_of_size, rank_of as rank_of_size}
use Rattle.size_check.specs.Limits.{IsFault as IsSizeFault}
use Rattle.size_check.specs.declared.fault.SizeFault.{SizeFault}
use Rattle.width_fit.specs.Faults.{IsFault as IsWidthFault, IsFirst as IsFirstOfWidths}
use Rattle.width_fit.specs.Fitting.{IsSolved, IsFittedCircuit}
use Rattle.width_fit.specs.declared.fault.WidthFault.{WidthFault}
use Rattle.prim_ops.specs.declared.widths.Width.{Width}
use Rattle.fir_meaning.specs.Components.{design_of}
use Rattle.fir_meaning.specs.Certain.{IsInitialized}
use Rattle.fir_meaning.specs.ClockRoot.{HasOneClock}
use Rattle.fir_meaning.specs.Loops.{HasNoLoop}
use Rattle.drive_check.specs.Faults.{place_of as place_of_drives, rank_of as rank_of_drives}
use Rattle.drive_check.specs.Initialized.{IsFault as IsDriveFault}
use Rattle.drive_check.specs.declared.fault.DriveFault.{DriveFault}
use Rattle.clock_check.specs.Faults.{place_of as place_of_clocks, rank_of as rank_of_clocks}
use Rattle.clock_check.specs.Clocked.{IsFault as IsClockFault}
use Rattle.clock_check.specs.declared.fault.ClockFault.{ClockFault}
use Rattle.comb_order.specs.Faults.{place_of as place_of_order, rank_of as rank_of_order}
use Rattle.comb_order.specs.declared.fault.OrderFault.{OrderFault}
use Rattle.net_laws.specs.FirstLoops.{IsLoopFault}
use Rattle.sim_engine.specs.Faults.{fault_place}
use Rattle.sim_engine.specs.declared.fault.CircuitFault.{CircuitFault}
use Rattle.sim_engine.specs.declared.fault.CircuitFault.TheVariants as fault

-- the greatest length of a circuit's text, in bytes
abbrev pub circuit_limit : ℕ
circuit_limit = 16777216

-- the text is made of these tokens
pub record IsLexed (text : List ℕ) (tokens : List Token) : Type 0 where
  pub tokens_are : AreTokens text tokens

-- its lines are laid out to this list
pub record IsLaid (text : List ℕ) (laid : List Laid) : Type 0 where
  pub lexed : IsLexed text (tokens_in laid)
  pub laid_out : IsLaidOut text laid

-- the laid list spells this circuit, and goes nowhere too deep
pub record IsParsed (text : List ℕ) (circuit : Circuit) : Type 0 where
  pub list : List Laid
  pub laid : IsLaid text list
  pub spelled : IsCircuit text list circuit
  pub shallow : (k : ℕ) → ¬ (IsDeepAt (pieces_of text list) k)

-- the names of the circuit have no fault
pub record IsNamed (text : List ℕ) (circuit : Circuit) : Type 0 where
  pub parsed : IsParsed text circuit
  pub none : HasNone (IsNameFault circuit)

-- the tree is the circuit with its `Reset`s resolved, and its types have none
pub record IsTyped (text : List ℕ) (circuit tree : Circuit) : Type 0 where
  pub named : IsNamed text circuit
  pub resolved : IsResolved circuit tree
  pub none : HasNone (IsTypeFault tree)

-- its size passes no limit
pub record IsSized (text : List ℕ) (circuit tree : Circuit) : Type 0 where
  pub typed : IsTyped text circuit tree
  pub none : HasNone (IsSizeFault tree)

-- it has least widths, and they have no fault
pub record IsWidthed (text : List ℕ) (circuit tree : Circuit) : Type 0 where
  pub sized : IsSized text circuit tree
  pub checked : Checked
  pub widths : List Width
  pub solved : IsSolved tree checked widths
  pub none : HasNone (IsWidthFault checked widths)

-- the types with these widths, beside the circuit that the text spells and the tree that the later stages read
pub record IsFitted (text : List ℕ) (fitted : Fitted) : Type 0 where
  pub widthed : IsWidthed text fitted.checked.circuit fitted.checked.resolved
  pub types : IsFittedCircuit fitted.checked.resolved fitted

-- every leaf that must be driven is
pub record IsDriven (text : List ℕ) (fitted : Fitted) : Type 0 where
  pub fits : IsFitted text fitted
  pub initialized : IsInitialized (design_of fitted)

-- all registers and memory ports have main's clock
pub record IsClocked (text : List ℕ) (fitted : Fitted) : Type 0 where
  pub driven : IsDriven text fitted
  pub one_clock : HasOneClock (design_of fitted)

-- no leaf reads itself: the text passes all stages, with this circuit and these types
pub record IsAccepted (text : List ℕ) (fitted : Fitted) : Type 0 where
  pub clocked : IsClocked text fitted
  pub no_loop : HasNoLoop (design_of fitted)

-- the faults of the last stages that are told: no other one of the stage comes before
abbrev pub IsFirstOfSize : Circuit → SizeFault → Type 0
IsFirstOfSize circuit = IsFirst place_of_size rank_of_size (IsSizeFault circuit)

abbrev pub IsFirstOfDrives : Fitted → DriveFault → Type 0
IsFirstOfDrives fitted = IsFirst place_of_drives rank_of_drives (IsDriveFault fitted)

abbrev pub IsFirstOfClocks : Fitted → ClockFault → Type 0
IsFirstOfClocks fitted = IsFirst place_of_clocks rank_of_clocks (IsClockFault fitted)

abbrev pub IsFirstOfLoops : Fitted → OrderFault → Type 0
IsFirstOfLoops fitted = IsFirst place_of_order rank_of_order (IsLoopFault (design_of fitted))

-- The first fault of the text: the text passes the stages before, and the fault is the first one of its stage.
pub data IsFirstFault (text : List ℕ) : CircuitFault → Type 0 where
  of_tokens : (at : ℕ) (given : LexFault) → IsTokenFault text at given → IsFirstFault text (fault.Lex given)
  of_layout : (tokens : List Token) (at : ℕ) → IsLexed text tokens → IsBadIndent text at → IsFirstFault text (fault.Layout (BadIndent (place text at)))
  of_grammar : (laid : List Laid) (given : ParseFault) → IsLaid text laid → FaultOf text laid given → IsFirstFault text (fault.Parse given)
  of_names : (circuit : Circuit) (given : NameFault) → IsParsed text circuit → IsFirstOfNames circuit given → IsFirstFault text (fault.Name given)
  of_types : (circuit tree : Circuit) (given : TypeFault) → IsNamed text circuit → IsResolved circuit tree → IsFirstOfTypes tree given → IsFirstFault text (fault.Typing given)
  of_size : (circuit tree : Circuit) (given : SizeFault) → IsTyped text circuit tree → IsFirstOfSize tree given → IsFirstFault text (fault.Size given)
  of_widths : (circuit tree : Circuit) (checked : Checked) (widths : List Width) (given : WidthFault) → IsSized text circuit tree → IsSolved tree checked widths
      → IsFirstOfWidths checked widths given → IsFirstFault text (fault.Width given)
  of_drives : (fitted : Fitted) (given : DriveFault) → IsFitted text fitted → IsFirstOfDrives fitted given → IsFirstFault text (fault.Drive given)
  of_clocks : (fitted : Fitted) (given : ClockFault) → IsDriven text fitted → IsFirstOfClocks fitted given → IsFirstFault text (fault.Clock given)
  of_order : (fitted : Fitted) (given : OrderFault) → IsClocked text fitted → IsFirstOfLoops fitted given → IsFirstFault text (fault.Order given)

-- the answer to a text that isn't accepted: want of memory, or the first fault, which has its place
abbrev pub IsGiven : List ℕ → CircuitFault → Type 0
IsGiven text given = (given ≡ fault.NoMemory) ⊎ (IsFirstFault text given × ((there' : Place) × (fault_place given ≡ Some there')))
