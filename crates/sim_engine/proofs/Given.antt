-- What the stages answer, as the circuit's answer.
use Rattle.std.proofs.Common.{◌≡◌, ℕ, List, ◌⊎◌, ⊎_elim, inl, inr, refl, sym, ap, ◌∙◌, subst}
use Rattle.std.specs.Prelude.{Option, Some, None, Result, Ok, Err, IfOk, IfErr, MatchResult}
use Rattle.place_text.specs.declared.place.Place.{Place}
use Rattle.place_text.specs.Places.{place}
use Rattle.place_text.specs.First.{HasNone}
use Rattle.fir_lexer.specs.declared.token.Token.{Token}
use Rattle.fir_lexer.specs.declared.fault.LexFault.{LexFault}
use Rattle.fir_lexer.specs.declared.fault.LexFault.TheVariants as lex
use Rattle.fir_lexer.specs.Faults.{place_of as place_of_tokens}
use Rattle.fir_lexer.specs.Tokens.{AreTokens, IsFault as IsTokenFault}
use Rattle.fir_layout.specs.Faults.{place_of as place_of_layout}
use Rattle.fir_layout.specs.Layout.{IsLaidOut, IsBadIndent, tokens_in}
use Rattle.fir_layout.specs.Pieces.{pieces_of}
use Rattle.fir_layout.specs.declared.laid.Laid.{Laid}
use Rattle.fir_layout.specs.declared.fault.LayoutFault.{LayoutFault}
use Rattle.fir_layout.specs.declared.fault.LayoutFault.TheVariants as layout
use Rattle.fir_grammar.specs.Grammar.{IsCircuit}
use Rattle.fir_grammar.specs.Faults.{FaultOf, IsDeepAt}
use Rattle.fir_tree.specs.Faults.{place_of as place_of_grammar}
use Rattle.fir_tree.specs.declared.circuit.Circuit.{Circuit}
use Rattle.fir_tree.specs.declared.scope.Checked.{Checked}
use Rattle.fir_tree.specs.declared.scope.Fitted.{Fitted}
use Rattle.fir_tree.specs.declared.scope.Scope.{Scope}
use Rattle.fir_types.specs.declared.fir_type.FirType.{FirType}
use Rattle.fir_tree.specs.declared.fault.ParseFault.{ParseFault}
use Rattle.fir_tree.specs.declared.fault.ParseFault.TheVariants as parse
use Rattle.fir_names.specs.Faults.{IsFault as IsNameFault, IsFirst as IsFirstOfNames, place_of as place_of_names}
use Rattle.fir_names.specs.Scopes.{IsScope}
use Rattle.fir_names.specs.declared.fault.NameFault.{NameFault}
use Rattle.reset_search.specs.Resolved.{IsResolved}
use Rattle.reset_names.proofs.Marking.{same_names}
use Rattle.reset_names.proofs.Crossing.{scope_there}
use Rattle.type_check.specs.Faults.{IsFault as IsTypeFault, IsFirst as IsFirstOfTypes, place_of as place_of_types}
use Rattle.type_check.specs.Statements.{types_of}
use Rattle.type_check.specs.declared.fault.TypeFault.{TypeFault}
use Rattle.size_check.specs.Faults.{place_of as place_of_size}
use Rattle.size_check.specs.Limits.{IsFault as IsSizeFault}
use Rattle.size_check.specs.declared.fault.SizeFault.{SizeFault}
use Rattle.width_fit.specs.Faults.{place_of as place_of_widths}
use Rattle.width_fit.specs.Fitting.{IsFit}
use Rattle.width_fit.specs.declared.fault.WidthFault.{WidthFault}
use Rattle.fir_meaning.specs.Components.{design_of}
use Rattle.fir_meaning.specs.Certain.{IsInitialized}
use Rattle.fir_meaning.specs.ClockRoot.{HasOneClock}
use Rattle.fir_meaning.specs.Loops.{HasNoLoop}
use Rattle.drive_check.specs.Faults.{place_of as place_of_drives}
use Rattle.drive_check.specs.declared.fault.DriveFault.{DriveFault}
use Rattle.clock_check.specs.Faults.{place_of as place_of_clocks}
use Rattle.clock_check.specs.declared.fault.ClockFault.{ClockFault}
use Rattle.comb_order.specs.Faults.{place_of as place_of_order}
use Rattle.comb_order.specs.declared.fault.OrderFault.{OrderFault}
use Rattle.sim_engine.specs.Unfit.{IsUnfit}
use Rattle.sim_engine.specs.Building.{IsBuilt}
use Rattle.sim_engine.specs.Stages.{IsLaid, IsParsed, IsNamed, IsTyped, IsSized, IsWidthed, IsFitted, IsDriven, IsClocked, IsAccepted, IsFirstOfSize, IsFirstOfDrives, IsFirstOfClocks, IsFirstOfLoops, IsGiven}
use Rattle.sim_engine.specs.Stages.{IsFirstFault, of_tokens, of_layout, of_grammar, of_names, of_types, of_size, of_widths, of_drives, of_clocks, of_order}
use Rattle.sim_engine.specs.Faults.{fault_place, unless_wanting}
use Rattle.sim_engine.specs.declared.compile.Built.{Built}
use Rattle.sim_engine.specs.declared.fault.CircuitFault.{CircuitFault}
use Rattle.sim_engine.specs.declared.fault.CircuitFault.TheVariants as fault
use Rattle.sim_engine.proofs.Once.{one_fault, no_fault, accepted_once}
use Rattle.sim_engine.proofs.Solving.{solved_by, fitted_circuit}

-- want of memory has no place, and a first fault has one
by_place : (text : List ℕ) (given : CircuitFault) (there' : Option Place) → fault_place given ≡ there' → (there' ≡ None) ⊎ IsFirstFault text given
    → IsGiven text (unless_wanting there' given)
by_place text given None e found = inl refl
by_place text given (Some p) e found = ⊎_elim (λ m. absurd (cc)) (λ f. inr (f, (p, e))) found

pub given_tokens : (text : List ℕ) (given : LexFault) → (given ≡ lex.NoMemory) ⊎ ((at : ℕ) × IsTokenFault text at given)
    → IsGiven text (unless_wanting (place_of_tokens given) (fault.Lex given))
given_tokens text given found = by_place text (fault.Lex given) (place_of_tokens given) refl
    (⊎_elim (λ m. inl (ap place_of_tokens m)) (λ (f : (at : ℕ) × IsTokenFault text at given). inr (of_tokens f.0 given f.1)) found)

pub given_layout : (text : List ℕ) (tokens : List Token) (given : LayoutFault) → AreTokens text tokens
    → (given ≡ layout.NoMemory) ⊎ ((at : ℕ) × IsBadIndent text at × (given ≡ layout.BadIndent (place text at)))
    → IsGiven text (unless_wanting (place_of_layout given) (fault.Layout given))
given_layout text tokens given a found = by_place text (fault.Layout given) (place_of_layout given) refl (⊎_elim (λ m. inl (ap place_of_layout m))
    (λ (f : (at : ℕ) × IsBadIndent text at × (given ≡ layout.BadIndent (place text at))).
    inr (subst (λ x. IsFirstFault text (fault.Layout x)) (sym f.2) (of_layout tokens f.0 (record { tokens_are = a }) f.1))) found)

pub laid_by : (text : List ℕ) (given tokens : List Token) (laid : List Laid) → AreTokens text tokens → IsLaidOut text laid → tokens_in laid ≡ given → given ≡ tokens → IsLaid text laid
laid_by text given tokens laid a l items same = record { lexed = record { tokens_are = subst (AreTokens text) (sym (items ∙ same)) a }; laid_out = l }

pub given_grammar : (text : List ℕ) (laid read : List Laid) (given : ParseFault) → IsLaid text laid → read ≡ laid → (given ≡ parse.NoMemory) ⊎ FaultOf text read given
    → IsGiven text (unless_wanting (place_of_grammar given) (fault.Parse given))
given_grammar text laid read given l same found = by_place text (fault.Parse given) (place_of_grammar given) refl
    (⊎_elim (λ m. inl (ap place_of_grammar m)) (λ f. inr (of_grammar laid given l (subst (λ x. FaultOf text x given) same f))) found)

pub parsed_by : (text : List ℕ) (laid read : List Laid) (circuit : Circuit) → IsLaid text laid → read ≡ laid → IsCircuit text read circuit
    → ((k : ℕ) → ¬ (IsDeepAt (pieces_of text read) k)) → IsParsed text circuit
parsed_by text laid read circuit l same spelled shallow = record {
  list = laid;
  laid = l;
  spelled = subst (λ x. IsCircuit text x circuit) same spelled;
  shallow = subst (λ x. (k : ℕ) → ¬ (IsDeepAt (pieces_of text x) k)) same shallow;
}

pub given_names : (text : List ℕ) (circuit : Circuit) (given : NameFault) → IsParsed text circuit → (place_of_names given ≡ None) ⊎ IsFirstOfNames circuit given
    → IsGiven text (unless_wanting (place_of_names given) (fault.Name given))
given_names text circuit given p found = by_place text (fault.Name given) (place_of_names given) refl (⊎_elim (λ m. inl m) (λ f. inr (of_names circuit given p f)) found)

pub named_by : (text : List ℕ) (circuit : Circuit) → IsParsed text circuit → HasNone (IsNameFault circuit) → IsNamed text circuit
named_by text circuit parsed none = record { parsed = parsed; none = none }

pub given_types : (text : List ℕ) (circuit tree : Circuit) (given : TypeFault) → IsNamed text circuit → IsResolved circuit tree → (place_of_types given ≡ None) ⊎ IsFirstOfTypes tree given
    → IsGiven text (unless_wanting (place_of_types given) (fault.Typing given))
given_types text circuit tree given n r found =
    by_place text (fault.Typing given) (place_of_types given) refl (⊎_elim (λ m. inl m) (λ f. inr (of_types circuit tree given n r f)) found)

pub typed_by : (text : List ℕ) (circuit tree : Circuit) → IsNamed text circuit → IsResolved circuit tree → HasNone (IsTypeFault tree) → IsTyped text circuit tree
typed_by text circuit tree named resolved none = record { named = named; resolved = resolved; none = none }

pub given_size : (text : List ℕ) (circuit tree : Circuit) (given : SizeFault) → IsTyped text circuit tree → (place_of_size given ≡ None) ⊎ IsFirstOfSize tree given
    → IsGiven text (unless_wanting (place_of_size given) (fault.Size given))
given_size text circuit tree given t found = by_place text (fault.Size given) (place_of_size given) refl (⊎_elim (λ m. inl m) (λ f. inr (of_size circuit tree given t f)) found)

-- a circuit that passes the size, with its scope and its types
pub record IsMeasured (text : List ℕ) (checked : Checked) : Type 0 where
  pub sized : IsSized text checked.circuit checked.resolved
  pub scope : IsScope checked.resolved checked.scope
  pub types : checked.types ≡ types_of checked.resolved

-- what the names of the circuit mean they mean in its tree
pub measured_by : (text : List ℕ) (spelled circuit tree : Circuit) (scope : Scope) (types : List FirType) → circuit ≡ spelled → IsTyped text circuit tree → HasNone (IsSizeFault tree) → IsScope spelled scope
    → types ≡ types_of tree → IsMeasured text (record { circuit = circuit; resolved = tree; scope = scope; types = types })
measured_by text spelled circuit tree scope types same typed none means is = record {
  sized = record { typed = typed; none = none };
  scope = scope_there circuit tree (same_names circuit tree typed.resolved) scope (subst (λ (x : Circuit). IsScope x scope) (sym same) means);
  types = is;
}

pub given_widths : (text : List ℕ) (checked : Checked) (given : WidthFault) → IsMeasured text checked → (place_of_widths given ≡ None) ⊎ IsUnfit checked given
    → IsGiven text (unless_wanting (place_of_widths given) (fault.Width given))
given_widths text checked given m found = by_place text (fault.Width given) (place_of_widths given) refl (⊎_elim (λ e. inl e)
    (λ (u : IsUnfit checked given). inr (of_widths checked.circuit checked.resolved checked u.widths given m.sized (solved_by checked u.widths m.scope m.types u.least) u.first)) found)

pub fitted_by : (text : List ℕ) (checked : Checked) (fitted : Fitted) → IsMeasured text checked → IsFit checked fitted → IsFitted text fitted
fitted_by text checked fitted m fit = record {
  widthed = subst (λ (x : Checked). IsWidthed text x.circuit x.resolved) (sym fit.fitted_is.checked_is)
      (record { sized = m.sized; checked = checked; widths = fit.widths; solved = solved_by checked fit.widths m.scope m.types fit.least; none = fit.none });
  types = fitted_circuit checked fitted m.scope m.types fit;
}

pub given_drives : (text : List ℕ) (fitted : Fitted) (given : DriveFault) → IsFitted text fitted → (place_of_drives given ≡ None) ⊎ IsFirstOfDrives fitted given
    → IsGiven text (unless_wanting (place_of_drives given) (fault.Drive given))
given_drives text fitted given fits found = by_place text (fault.Drive given) (place_of_drives given) refl (⊎_elim (λ m. inl m) (λ f. inr (of_drives fitted given fits f)) found)

pub driven_by : (text : List ℕ) (fitted : Fitted) → IsFitted text fitted → IsInitialized (design_of fitted) → IsDriven text fitted
driven_by text fitted fits initialized = record { fits = fits; initialized = initialized }

pub given_clocks : (text : List ℕ) (fitted : Fitted) (given : ClockFault) → IsDriven text fitted → (place_of_clocks given ≡ None) ⊎ IsFirstOfClocks fitted given
    → IsGiven text (unless_wanting (place_of_clocks given) (fault.Clock given))
given_clocks text fitted given d found = by_place text (fault.Clock given) (place_of_clocks given) refl (⊎_elim (λ m. inl m) (λ f. inr (of_clocks fitted given d f)) found)

pub clocked_by : (text : List ℕ) (fitted : Fitted) → IsDriven text fitted → HasOneClock (design_of fitted) → IsClocked text fitted
clocked_by text fitted driven one_clock = record { driven = driven; one_clock = one_clock }

pub given_order : (text : List ℕ) (fitted : Fitted) (given : OrderFault) → IsClocked text fitted → (place_of_order given ≡ None) ⊎ IsFirstOfLoops fitted given
    → IsGiven text (unless_wanting (place_of_order given) (fault.Order given))
given_order text fitted given c found = by_place text (fault.Order given) (place_of_order given) refl (⊎_elim (λ m. inl m) (λ f. inr (of_order fitted given c f)) found)

pub accepted_by : (text : List ℕ) (fitted : Fitted) → IsClocked text fitted → HasNoLoop (design_of fitted) → IsAccepted text fitted
accepted_by text fitted clocked no_loop = record { clocked = clocked; no_loop = no_loop }

-- the clauses that follow from the definitions
pub fault_from : (text : List ℕ) (result : Result Built CircuitFault) → IfErr result (IsGiven text) → IfErr result (λ given. (given ≡ fault.NoMemory) ⊎ IsFirstFault text given)
fault_from text (Ok built) found = tt
fault_from text (Err given) found =
    ⊎_elim (λ m. inl m) (λ (f : IsFirstFault text given × ((p : Place) × (fault_place given ≡ Some p))). inr f.0) found

pub placed_from : (text : List ℕ) (result : Result Built CircuitFault) → IfErr result (IsGiven text)
    → IfErr result (λ given. (given ≡ fault.NoMemory) ⊎ ((p : Place) × (fault_place given ≡ Some p)))
placed_from text (Ok built) found = tt
placed_from text (Err given) found =
    ⊎_elim (λ m. inl m) (λ (f : IsFirstFault text given × ((p : Place) × (fault_place given ≡ Some p))). inr f.1) found

pub accepts_from : (text : List ℕ) (result : Result Built CircuitFault) → IfOk result (IsBuilt text) → IfErr result (IsGiven text)
    → (fitted : Fitted) → IsAccepted text fitted → MatchResult result (λ built. design_of built.fitted ≡ design_of fitted) (λ given. given ≡ fault.NoMemory)
accepts_from text (Ok built) is found fitted a = (accepted_once text built.fitted fitted is.accepted a).1
accepts_from text (Err given) is found fitted a =
    ⊎_elim (λ m. m) (λ (f : IsFirstFault text given × ((p : Place) × (fault_place given ≡ Some p))). absurd (no_fault text given fitted f.0 a)) found

pub refuses_from : (text : List ℕ) (result : Result Built CircuitFault) → IfOk result (IsBuilt text) → IfErr result (IsGiven text)
    → (first : CircuitFault) → IsFirstFault text first → MatchResult result (λ built. ⊥) (λ given. (given ≡ fault.NoMemory) ⊎ (given ≡ first))
refuses_from text (Ok built) is found first f = no_fault text first built.fitted f is.accepted
refuses_from text (Err given) is found first f =
    ⊎_elim (λ m. inl m) (λ (g : IsFirstFault text given × ((p : Place) × (fault_place given ≡ Some p))). inr (one_fault text given first g.0 f)) found
