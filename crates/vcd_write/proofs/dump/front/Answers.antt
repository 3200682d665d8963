use Rattle.std.proofs.Common.{◌≡◌, ℕ, List, [], ◌∷◌, ◌++◌, sym, ap, ◌∙◌, append_assoc}
use Rattle.std.specs.Prelude.{flat_map, map, codes}
use Rattle.std.specs.List.{enumerate_from}
use Rattle.std.proofs.lemmas.Grind.{flat_map-append}
use Rattle.ground_net.specs.declared.net.PortLeaf.{PortLeaf}
use Rattle.vcd_write.specs.Texts.{var_line, ended}
use Rattle.vcd_write.specs.Pieces.{header_text}
use Rattle.vcd_write.proofs.dump.front.Goals as goal

joined : (f top e v u a b c d n : List ℕ) → a ≡ f → b ≡ a ++ top → c ≡ b ++ (e ++ 10 ∷ []) → d ≡ c ++ v → n ≡ d ++ u → n ≡ f ++ (((top ++ e) ++ 10 ∷ []) ++ (v ++ u))
joined f top e v u a b c d n p q r s t =
    t ∙ (ap (λ x. x ++ u) (s ∙ ap (λ x. x ++ v) (r ∙ ap (λ x. x ++ (e ++ 10 ∷ [])) (q ∙ ap (λ x. x ++ top) p))) ∙ simp append_assoc)

whole : (top : List ℕ) (vars : List PortLeaf) (a b c d n : List ℕ) → a ≡ codes "$timescale 1 ns $end\n$scope module " → b ≡ a ++ top → c ≡ b ++ codes " $end\n"
    → d ≡ c ++ flat_map ended (map var_line (enumerate_from 0 vars)) → n ≡ d ++ codes "$upscope $end\n$enddefinitions $end\n" → n ≡ header_text top vars
whole top vars a b c d n p q r s t =
    joined (codes "$timescale 1 ns $end\n$scope module ") top (codes " $end") (flat_map ended (map var_line (enumerate_from 0 vars))) (codes "$upscope $end\n$enddefinitions $end\n") a b c d n p q r s t
    ∙ ap (λ l. codes "$timescale 1 ns $end\n$scope module " ++ (((top ++ codes " $end") ++ 10 ∷ []) ++ l))
    (sym (flat_map-append ended (map var_line (enumerate_from 0 vars)) (codes "$upscope $end" ∷ codes "$enddefinitions $end" ∷ [])))

pub returns : goal.returns
returns c = whole c.args.top.now c.args.vars.now _ _ _ _ _ c.in_ok-text.ensures.items c.in_ok-extend_from_slice.ensures.items
    c.in_ok-extend_from_slice-2.ensures.items (c.in_ok-push_variables.ensures ∙ ap (λ vs. c.extend_from_slice-2.new.self.items ++ flat_map ended (map var_line (enumerate_from 0 vs))) c.as_slice.ensures)
    c.in_ok-extend_from_slice-3.ensures.items
