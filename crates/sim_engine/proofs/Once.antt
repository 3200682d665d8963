-- A text has at most one first fault, and none where it passes all stages: each stage is passed in one way or has one first
-- fault, and what stops at a stage passes none behind it.
use Rattle.std.proofs.Common.{◌≡◌, ◌⊎◌, inl, inr, ℕ, List, refl, sym, ap, ◌∙◌, subst}
use Rattle.std.specs.Prelude.{⊤}
use Rattle.place_text.specs.Places.{place}
use Rattle.place_text.proofs.Ordering.{one_first}
use Rattle.fir_lexer.specs.declared.token.Token.{Token}
use Rattle.fir_lexer.specs.declared.fault.LexFault.{LexFault}
use Rattle.fir_lexer.specs.Tokens.{IsFault as IsTokenFault}
use Rattle.fir_lexer.proofs.Readings.{no_tokens, one_fault as one_token_fault}
use Rattle.fir_layout.specs.Layout.{IsBadIndent, tokens_in}
use Rattle.fir_layout.specs.declared.laid.Laid.{Laid}
use Rattle.fir_layout.specs.declared.fault.LayoutFault.{LayoutFault}
use Rattle.fir_layout.specs.declared.fault.LayoutFault.TheVariants.{BadIndent}
use Rattle.fir_layout.proofs.Layouts.{one_layout, no_layout, one_bad_indent}
use Rattle.fir_grammar.specs.Grammar.{IsCircuit}
use Rattle.fir_grammar.specs.Faults.{FaultOf}
use Rattle.fir_grammar.proofs.Unique.{one_circuit}
use Rattle.fir_grammar.proofs.OneFault.{one_fault as one_parse_fault, accepted}
use Rattle.fir_tree.specs.declared.circuit.Circuit.{Circuit}
use Rattle.fir_tree.specs.declared.scope.Checked.{Checked}
use Rattle.fir_tree.specs.declared.scope.Fitted.{Fitted}
use Rattle.fir_tree.specs.declared.fault.ParseFault.{ParseFault}
use Rattle.fir_names.specs.Faults.{IsFault as IsNameFault, IsFirst as IsFirstOfNames, place_of as place_of_names, rank_of as rank_of_names}
use Rattle.fir_names.specs.Ranks.{one_each as one_name_each}
use Rattle.fir_names.specs.declared.fault.NameFault.{NameFault}
use Rattle.reset_search.specs.Resolved.{IsResolved}
use Rattle.reset_search.proofs.Once.{resolved_once}
use Rattle.type_check.specs.Faults.{IsFault as IsTypeFault, IsFirst as IsFirstOfTypes, place_of as place_of_types, rank_of as rank_of_types}
use Rattle.type_check.specs.Ranks.{one_each as one_type_each}
use Rattle.type_check.specs.declared.fault.TypeFault.{TypeFault}
use Rattle.size_check.specs.Faults.{place_of as place_of_size, rank_of as rank_of_size}
use Rattle.size_check.specs.Limits.{IsFault as IsSizeFault}
use Rattle.size_check.specs.Ranks.{one_each as one_size_each}
use Rattle.size_check.specs.declared.fault.SizeFault.{SizeFault}
use Rattle.width_fit.specs.Faults.{IsFirst as IsFirstOfWidths, place_of as place_of_widths, rank_of as rank_of_widths}
use Rattle.width_fit.specs.Fitting.{IsSolved, IsFittedCircuit}
use Rattle.width_fit.specs.Ranks.{one_each as one_width_each}
use Rattle.width_fit.specs.declared.fault.WidthFault.{WidthFault}
use Rattle.prim_ops.specs.declared.widths.Width.{Width}
use Rattle.fir_meaning.specs.Components.{design_of}
use Rattle.drive_check.specs.Faults.{place_of as place_of_drives, rank_of as rank_of_drives}
use Rattle.drive_check.specs.Ranks.{one_each as one_drive_each}
use Rattle.drive_check.specs.declared.fault.DriveFault.{DriveFault}
use Rattle.clock_check.specs.Faults.{place_of as place_of_clocks, rank_of as rank_of_clocks}
use Rattle.clock_check.specs.Ranks.{one_each as one_clock_each}
use Rattle.clock_check.specs.declared.fault.ClockFault.{ClockFault}
use Rattle.comb_order.specs.Faults.{place_of as place_of_order, rank_of as rank_of_order}
use Rattle.comb_order.specs.Ranks.{one_each as one_order_each}
use Rattle.comb_order.specs.declared.fault.OrderFault.{OrderFault}
use Rattle.sim_engine.specs.Only.{IsOnly}
use Rattle.sim_engine.specs.Stages.{IsLexed, IsLaid, IsParsed, IsNamed, IsTyped, IsSized, IsFitted, IsDriven, IsClocked, IsAccepted, IsFirstOfSize, IsFirstOfDrives, IsFirstOfClocks, IsFirstOfLoops}
use Rattle.sim_engine.specs.Stages.{IsFirstFault, of_tokens, of_layout, of_grammar, of_names, of_types, of_size, of_widths, of_drives, of_clocks, of_order}
use Rattle.sim_engine.specs.declared.fault.CircuitFault.{CircuitFault}
use Rattle.sim_engine.specs.declared.fault.CircuitFault.TheVariants as fault
use Rattle.sim_engine.proofs.Solving.{same_fault, same_first, same_declared, same_modules}
use Rattle.sim_engine.proofs.Settling.{IsStage, As, Settles, begin, and_then}
use Rattle.sim_engine.proofs.Accepting.{fitted_well_formed}
use Rattle.sim_engine.proofs.Alike.{AreAlike, same_design, first_drives, first_clocks, first_loops, driven_has_none, one_clock_has_none, no_loop_has_none}

-- a stage is passed in one way
pub laid_once : (text : List ℕ) (first second : List Laid) → IsLaid text first → IsLaid text second → first ≡ second
laid_once text first second f s = one_layout text first second f.laid_out s.laid_out

pub parsed_once : (text : List ℕ) (first second : Circuit) → IsParsed text first → IsParsed text second → first ≡ second
parsed_once text first second f s =
    one_circuit text s.list first second (subst (λ x. IsCircuit text x first) (laid_once text f.list s.list f.laid s.laid) f.spelled) s.spelled

tree_once : (text : List ℕ) (circuit other tree second : Circuit) → IsNamed text circuit → IsNamed text other → IsResolved circuit tree → IsResolved other second → tree ≡ second
tree_once text circuit other tree second n m r s =
    resolved_once other tree second (subst (λ x. IsResolved x tree) (parsed_once text circuit other n.parsed m.parsed) r) s

-- the tree of a text that passes the types
typed_once : (text : List ℕ) (circuit other tree second : Circuit) → IsTyped text circuit tree → IsTyped text other second → tree ≡ second
typed_once text circuit other tree second f s = tree_once text circuit other tree second f.named s.named f.resolved s.resolved

fitted_once : (text : List ℕ) (first second : Fitted) → IsFitted text first → IsFitted text second → AreAlike first second
fitted_once text first second f s =
    let same = typed_once text first.checked.circuit second.checked.circuit first.checked.resolved second.checked.resolved f.widthed.sized.typed s.widthed.sized.typed in
    let moved = subst (λ x. IsFittedCircuit x first) same f.types in record {
      circuit = same;
      declared = same_declared second.checked.resolved first second moved s.types;
      reached = same_modules second.checked.resolved first second moved s.types;
    }

pub accepted_once : (text : List ℕ) (first second : Fitted) → IsAccepted text first → IsAccepted text second
    → (first.checked.resolved ≡ second.checked.resolved) × (design_of first ≡ design_of second)
accepted_once text first second f s =
    let same = fitted_once text first second f.clocked.driven.fits s.clocked.driven.fits in (same.circuit, same_design first second same)

-- Each stage tells one fault, which excludes that it is passed.
abbrev OfTokens : List ℕ → LexFault → Type 0
OfTokens text given = (at : ℕ) × IsTokenFault text at given

tokens_stage : (text : List ℕ) → IsStage (OfTokens text) ⊤ ((tokens : List Token) × IsLexed text tokens)
tokens_stage text = record {
  once = λ first second p q. (one_token_fault text p.0 q.0 first second p.1 q.1).1;
  came = λ given p. tt;
  stops = λ given p a. no_tokens text p.0 given a.0 p.1 a.1.tokens_are;
  down = λ a. tt;
}

abbrev OfLayout : List ℕ → LayoutFault → Type 0
OfLayout text given = (tokens : List Token) × (at : ℕ) × IsLexed text tokens × IsBadIndent text at × (given ≡ BadIndent (place text at))

layout_stage : (text : List ℕ) → IsStage (OfLayout text) ((tokens : List Token) × IsLexed text tokens) ((laid : List Laid) × IsLaid text laid)
layout_stage text = record {
  once = λ first second p q. p.4 ∙ ap (λ at. BadIndent (place text at)) (one_bad_indent text p.1 q.1 p.3 q.3) ∙ sym q.4;
  came = λ given p. (p.0, p.2);
  stops = λ given p a. no_layout text p.1 a.0 p.3 a.1.laid_out;
  down = λ a. (tokens_in a.0, a.1.lexed);
}

abbrev OfGrammar : List ℕ → ParseFault → Type 0
OfGrammar text given = (laid : List Laid) × IsLaid text laid × FaultOf text laid given

grammar_stage : (text : List ℕ) → IsStage (OfGrammar text) ((laid : List Laid) × IsLaid text laid) ((circuit : Circuit) × IsParsed text circuit)
grammar_stage text = record {
  once = λ first second p q. one_parse_fault text q.0 first second (subst (λ x. FaultOf text x first) (laid_once text p.0 q.0 p.1 q.1) p.2) q.2;
  came = λ given p. (p.0, p.1);
  stops = λ given p a. accepted text a.1.list a.0 given a.1.spelled a.1.shallow (subst (λ x. FaultOf text x given) (laid_once text p.0 a.1.list p.1 a.1.laid) p.2);
  down = λ a. (a.1.list, a.1.laid);
}

abbrev OfNames : List ℕ → NameFault → Type 0
OfNames text given = (circuit : Circuit) × IsParsed text circuit × IsFirstOfNames circuit given

names_stage : (text : List ℕ) → IsStage (OfNames text) ((circuit : Circuit) × IsParsed text circuit) ((circuit : Circuit) × IsNamed text circuit)
names_stage text = record {
  once = λ first second p q. one_first place_of_names rank_of_names one_name_each first second
      (subst (λ x. IsFirstOfNames x first) (parsed_once text p.0 q.0 p.1 q.1) p.2) q.2;
  came = λ given p. (p.0, p.1);
  stops = λ given p a. a.1.none given (subst (λ x. IsNameFault x given) (parsed_once text p.0 a.0 p.1 a.1.parsed) p.2.is);
  down = λ a. (a.0, a.1.parsed);
}

abbrev OfTypes : List ℕ → TypeFault → Type 0
OfTypes text given = (circuit : Circuit) × (tree : Circuit) × IsNamed text circuit × IsResolved circuit tree × IsFirstOfTypes tree given

types_stage : (text : List ℕ) → IsStage (OfTypes text) ((circuit : Circuit) × IsNamed text circuit) ((circuit : Circuit) × (tree : Circuit) × IsTyped text circuit tree)
types_stage text = record {
  once = λ first second p q. one_first place_of_types rank_of_types one_type_each first second
      (subst (λ x. IsFirstOfTypes x first) (tree_once text p.0 q.0 p.1 q.1 p.2 q.2 p.3 q.3) p.4) q.4;
  came = λ given p. (p.0, p.2);
  stops = λ given p a. a.2.none given (subst (λ x. IsTypeFault x given) (tree_once text p.0 a.0 p.1 a.1 p.2 a.2.named p.3 a.2.resolved) p.4.is);
  down = λ a. (a.0, a.2.named);
}

abbrev OfSize : List ℕ → SizeFault → Type 0
OfSize text given = (circuit : Circuit) × (tree : Circuit) × IsTyped text circuit tree × IsFirstOfSize tree given

size_stage : (text : List ℕ) → IsStage (OfSize text) ((circuit : Circuit) × (tree : Circuit) × IsTyped text circuit tree) ((circuit : Circuit) × (tree : Circuit) × IsSized text circuit tree)
size_stage text = record {
  once = λ first second p q. one_first place_of_size rank_of_size one_size_each first second
      (subst (λ x. IsFirstOfSize x first) (typed_once text p.0 q.0 p.1 q.1 p.2 q.2) p.3) q.3;
  came = λ given p. (p.0, p.1, p.2);
  stops = λ given p a. a.2.none given (subst (λ x. IsSizeFault x given) (typed_once text p.0 a.0 p.1 a.1 p.2 a.2.typed) p.3.is);
  down = λ a. (a.0, a.1, a.2.typed);
}

abbrev OfWidths : List ℕ → WidthFault → Type 0
OfWidths text given =
    (circuit : Circuit) × (tree : Circuit) × (checked : Checked) × (widths : List Width) × IsSized text circuit tree × IsSolved tree checked widths × IsFirstOfWidths checked widths given

widths_stage : (text : List ℕ) → IsStage (OfWidths text) ((circuit : Circuit) × (tree : Circuit) × IsSized text circuit tree) ((fitted : Fitted) × IsFitted text fitted)
widths_stage text = record {
  once = λ first second p q.
      let same = typed_once text p.0 q.0 p.1 q.1 p.4.typed q.4.typed in
      let solved = subst (λ x. IsSolved x p.2 p.3) same p.5 in
      one_first place_of_widths rank_of_widths one_width_each first second (same_first q.1 p.2 q.2 p.3 q.3 first solved q.5 p.6) q.6;
  came = λ given p. (p.0, p.1, p.4);
  stops = λ given p a.
      let widthed = a.1.widthed in
      let same = typed_once text p.0 a.0.checked.circuit p.1 a.0.checked.resolved p.4.typed widthed.sized.typed in
      let solved = subst (λ x. IsSolved x p.2 p.3) same p.5 in
      widthed.none given (same_fault a.0.checked.resolved p.2 widthed.checked p.3 widthed.widths given solved widthed.solved p.6.is);
  down = λ a. (a.0.checked.circuit, a.0.checked.resolved, a.1.widthed.sized);
}

abbrev OfDrives : List ℕ → DriveFault → Type 0
OfDrives text given = (fitted : Fitted) × IsFitted text fitted × IsFirstOfDrives fitted given

drives_stage : (text : List ℕ) → IsStage (OfDrives text) ((fitted : Fitted) × IsFitted text fitted) ((fitted : Fitted) × IsDriven text fitted)
drives_stage text = record {
  once = λ first second p q. one_first place_of_drives rank_of_drives one_drive_each first second
      (first_drives p.0 q.0 (fitted_once text p.0 q.0 p.1 q.1) first p.2) q.2;
  came = λ given p. (p.0, p.1);
  stops = λ given p a. driven_has_none a.0 (fitted_well_formed text a.0 a.1.fits) a.1.initialized given
      (first_drives p.0 a.0 (fitted_once text p.0 a.0 p.1 a.1.fits) given p.2).is;
  down = λ a. (a.0, a.1.fits);
}

abbrev OfClocks : List ℕ → ClockFault → Type 0
OfClocks text given = (fitted : Fitted) × IsDriven text fitted × IsFirstOfClocks fitted given

clocks_stage : (text : List ℕ) → IsStage (OfClocks text) ((fitted : Fitted) × IsDriven text fitted) ((fitted : Fitted) × IsClocked text fitted)
clocks_stage text = record {
  once = λ first second p q. one_first place_of_clocks rank_of_clocks one_clock_each first second
      (first_clocks p.0 q.0 (fitted_once text p.0 q.0 p.1.fits q.1.fits) first p.2) q.2;
  came = λ given p. (p.0, p.1);
  stops = λ given p a. one_clock_has_none a.0 a.1.one_clock given (first_clocks p.0 a.0 (fitted_once text p.0 a.0 p.1.fits a.1.driven.fits) given p.2).is;
  down = λ a. (a.0, a.1.driven);
}

abbrev OfOrder : List ℕ → OrderFault → Type 0
OfOrder text given = (fitted : Fitted) × IsClocked text fitted × IsFirstOfLoops fitted given

order_stage : (text : List ℕ) → IsStage (OfOrder text) ((fitted : Fitted) × IsClocked text fitted) ((fitted : Fitted) × IsAccepted text fitted)
order_stage text = record {
  once = λ first second p q. one_first place_of_order rank_of_order one_order_each first second
      (first_loops p.0 q.0 (fitted_once text p.0 q.0 p.1.driven.fits q.1.driven.fits) first p.2) q.2;
  came = λ given p. (p.0, p.1);
  stops = λ given p a. no_loop_has_none (design_of a.0) a.1.no_loop given
      (first_loops p.0 a.0 (fitted_once text p.0 a.0 p.1.driven.fits a.1.clocked.driven.fits) given p.2).is;
  down = λ a. (a.0, a.1.clocked);
}

-- The faults of the stages up to one.
abbrev UpToGrammar : List ℕ → CircuitFault → Type 0
UpToGrammar text f = ((⊥ ⊎ As fault.Lex (OfTokens text) f) ⊎ As fault.Layout (OfLayout text) f) ⊎ As fault.Parse (OfGrammar text) f

abbrev UpToSize : List ℕ → CircuitFault → Type 0
UpToSize text f = ((UpToGrammar text f ⊎ As fault.Name (OfNames text) f) ⊎ As fault.Typing (OfTypes text) f) ⊎ As fault.Size (OfSize text) f

abbrev UpToOrder : List ℕ → CircuitFault → Type 0
UpToOrder text f =
    (((UpToSize text f ⊎ As fault.Width (OfWidths text) f) ⊎ As fault.Drive (OfDrives text) f) ⊎ As fault.Clock (OfClocks text) f) ⊎ As fault.Order (OfOrder text) f

up_to_grammar : (text : List ℕ) → Settles (UpToGrammar text) ((circuit : Circuit) × IsParsed text circuit)
up_to_grammar text = and_then (and_then (and_then begin fault.Lex (tokens_stage text)) fault.Layout (layout_stage text)) fault.Parse (grammar_stage text)

up_to_size : (text : List ℕ) → Settles (UpToSize text) ((circuit : Circuit) × (tree : Circuit) × IsSized text circuit tree)
up_to_size text = and_then (and_then (and_then (up_to_grammar text) fault.Name (names_stage text)) fault.Typing (types_stage text)) fault.Size (size_stage text)

settled : (text : List ℕ) → Settles (UpToOrder text) ((fitted : Fitted) × IsAccepted text fitted)
settled text = and_then
    (and_then (and_then (and_then (up_to_size text) fault.Width (widths_stage text)) fault.Drive (drives_stage text)) fault.Clock (clocks_stage text)) fault.Order (order_stage text)

-- the first fault of a text is one of them
sized : (text : List ℕ) (f : CircuitFault) → UpToSize text f → UpToOrder text f
sized text f p = inl (inl (inl (inl p)))

parsed : (text : List ℕ) (f : CircuitFault) → UpToGrammar text f → UpToOrder text f
parsed text f p = sized text f (inl (inl (inl p)))

told : (text : List ℕ) (f : CircuitFault) → IsFirstFault text f → UpToOrder text f
told text f (of_tokens at given h) = parsed text f (inl (inl (inr (given, (at, h), refl))))
told text f (of_layout tokens at l b) = parsed text f (inl (inr (BadIndent (place text at), (tokens, at, l, b, refl), refl)))
told text f (of_grammar laid given l h) = parsed text f (inr (given, (laid, l, h), refl))
told text f (of_names circuit given p h) = sized text f (inl (inl (inr (given, (circuit, p, h), refl))))
told text f (of_types circuit tree given n r h) = sized text f (inl (inr (given, (circuit, tree, n, r, h), refl)))
told text f (of_size circuit tree given t h) = sized text f (inr (given, (circuit, tree, t, h), refl))
told text f (of_widths circuit tree checked widths given s solved h) = inl (inl (inl (inr (given, (circuit, tree, checked, widths, s, solved, h), refl))))
told text f (of_drives fitted given fits h) = inl (inl (inr (given, (fitted, fits, h), refl)))
told text f (of_clocks fitted given driven h) = inl (inr (given, (fitted, driven, h), refl))
told text f (of_order fitted given clocked h) = inr (given, (fitted, clocked, h), refl)

-- so the first fault is one, and there is none where all stages are passed
pub one_fault : (text : List ℕ) (f g : CircuitFault) → IsFirstFault text f → IsFirstFault text g → f ≡ g
one_fault text f g p q = (settled text).one f g (told text f p) (told text g q)

pub no_fault : (text : List ℕ) (f : CircuitFault) (fitted : Fitted) → IsFirstFault text f → ¬ (IsAccepted text fitted)
no_fault text f fitted p a = (settled text).none f (told text f p) (fitted, a)

-- only this, and nothing else
pub only_fault : (text : List ℕ) (f : CircuitFault) → IsFirstFault text f → IsOnly (IsFirstFault text) f
only_fault text f p = record { is = p; only = λ g q. one_fault text g f q p }

pub only_laid : (text : List ℕ) (laid : List Laid) → IsLaid text laid → IsOnly (IsLaid text) laid
only_laid text laid l = record { is = l; only = λ other m. laid_once text other laid m l }
