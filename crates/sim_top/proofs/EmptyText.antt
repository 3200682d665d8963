-- The empty text has its end alone as laid list, and the grammar refuses that piece: a text begins with `FIRRTL`.
use Rattle.std.proofs.Common.{◌≡◌, ℕ, List, [], ◌∷◌, ◌++◌, drop, refl, sym, ap, ◌∙◌, ⊎_elim, arith}
use Rattle.std.specs.Prelude.{codes, Some}
use Rattle.std.specs.Fmt.{digits}
use Rattle.std.proofs.lemmas.Grind.{common_steps}
use Rattle.place_text.specs.Places.{place, fault_line_bytes, first_place}
use Rattle.fir_lexer.specs.Tokens.{no_piece, AreTokens}
use Rattle.fir_layout.specs.Layout.{IsLaidOut, no_line}
use Rattle.fir_layout.specs.Pieces.{The_end}
use Rattle.fir_layout.specs.declared.laid.Laid.TheVariants.{End}
use Rattle.fir_grammar.specs.Grammar.{Symbol, A, Text, IsCase, a_text, Front, cut}
use Rattle.fir_grammar.specs.Faults.{IsBad, FaultOf, a_bad_piece, unlisted}
use Rattle.fir_tree.specs.declared.fault.ParseFault.TheVariants as grammar
use Rattle.fir_grammar.proofs.Fronts.{Front-taken, Front-entered}
use Rattle.sim_engine.specs.Faults.{fault_place}
use Rattle.sim_engine.specs.Stages.{IsLaid, IsFirstFault, of_grammar}
use Rattle.sim_engine.specs.declared.fault.CircuitFault.TheVariants.{Parse}
use Rattle.asked_texts.specs.Commands.{Check}
use Rattle.asked_texts.specs.Texts.{HasNone, all_of_it}
use Rattle.sim_top.specs.Answers.{Judges, taken, refused, fault_bytes}

laid_out : IsLaidOut [] (End 0 ∷ [])
laid_out = record { pieces = []; lexed = no_piece []; body = []; blocks = []; lines = no_line [] []; made = refl }

no_case : (body : List Symbol) → IsCase Text body → ¬ (Front (body ++ []) (The_end ∷ []))
no_case _ a_text f = (Front-taken f).0

no_front : ¬ (Front (A Text ∷ []) (The_end ∷ []))
no_front f = let e = Front-entered f in no_case e.0 e.1 e.2

bad : IsBad (The_end ∷ []) 0
bad = record { before = cut; here = no_front; shallow = record { none = λ n least most. absurd (omega arith) } }

fault : FaultOf [] (End 0 ∷ []) (grammar.BadSyntax (place [] 0))
fault = a_bad_piece 0 (End 0) (grammar.BadSyntax (place [] 0)) refl bad (λ h. h.1) (unlisted (λ h. h))

begins : place [] 0 ≡ first_place
unfolding place
begins = refl

tokens : AreTokens [] []
tokens = record { pieces = []; lexed = no_piece []; made = refl }

laid : IsLaid [] (End 0 ∷ [])
laid = record { lexed = record { tokens_are = tokens }; laid_out = laid_out }

first_fault : IsFirstFault [] (Parse (grammar.BadSyntax (place [] 0)))
first_fault = of_grammar (End 0 ∷ []) (grammar.BadSyntax (place [] 0)) laid fault

-- the stimulus line stands nowhere in it
dropped : (at : ℕ) → ◌≡◌ {A = List ℕ} (drop at []) []
dropped at = grind (arith, common_steps)

no_more : (x : ℕ) (xs : List ℕ) → [] ≡ x ∷ xs → ⊥
no_more x xs e = cc

has_none : HasNone []
has_none at after stands = ⊎_elim (λ e. no_more _ _ (sym (dropped at) ∙ e))
    (λ more. ⊎_elim (λ e. no_more _ _ (sym (dropped at) ∙ e)) (λ e. no_more _ _ (sym (dropped at) ∙ e.0)) more) stands.line

line : fault_bytes (Parse (grammar.BadSyntax (place [] 0))) first_place ≡ codes "circuit BadSyntax 1:1\n"
unfolding fault_line_bytes digits
line = refl

at_front : fault_place (Parse (grammar.BadSyntax (place [] 0))) ≡ Some first_place
at_front = ap Some begins

pub empty_refused : Judges Check [] 2 (codes "circuit BadSyntax 1:1\n")
empty_refused = rw line at (taken Check [] [] [] 2 (fault_bytes (Parse (grammar.BadSyntax (place [] 0))) first_place)
    (record { within = omega arith; part = all_of_it Check [] refl has_none; short = omega arith })
    (refused Check [] [] (Parse (grammar.BadSyntax (place [] 0))) first_place first_fault at_front))
