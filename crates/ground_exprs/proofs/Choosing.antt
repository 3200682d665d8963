-- Choices, place by place.
use Rattle.std.proofs.Common.{◌≡◌, List, [], ◌∷◌, ◌++◌, sym, subst, append_assoc, append-nil}
use Rattle.ground_net.specs.declared.ground.Ground.{Ground}
use Rattle.ground_exprs.specs.declared.source.Source.{Source}
use Rattle.ground_exprs.specs.Choices.{AreChosen, IsChosen}

pub chosen_more : (condition : Ground) (firsts seconds its others its2 others2 sources after rest : List Source) (first second s : Source)
    → ((rest : List Source) → AreChosen condition its others rest → AreChosen condition firsts seconds (sources ++ rest))
    → its ≡ first ∷ its2 → others ≡ second ∷ others2 → IsChosen condition first second s → after ≡ sources ++ s ∷ [] → AreChosen condition its2 others2 rest
    → AreChosen condition firsts seconds (after ++ rest)
chosen_more condition firsts seconds its others its2 others2 sources after rest first second s inv i o here is later =
    subst (λ l. AreChosen condition firsts seconds (l ++ rest)) (sym is)
    (subst (AreChosen condition firsts seconds) (sym (append_assoc sources (s ∷ []) rest))
    (inv (s ∷ rest) (subst (λ l. AreChosen condition l others (s ∷ rest)) (sym i) (subst (λ l. AreChosen condition (first ∷ its2) l (s ∷ rest)) (sym o) (here, later)))))

pub chosen_end : (condition : Ground) (firsts seconds its others sources : List Source) → ((rest : List Source) → AreChosen condition its others rest → AreChosen condition firsts seconds (sources ++ rest))
    → its ≡ [] → AreChosen condition firsts seconds sources
chosen_end condition firsts seconds its others sources inv e =
    subst (AreChosen condition firsts seconds) (append-nil sources) (inv [] (subst (λ l. AreChosen condition l others []) (sym e) tt))

pub chosen_short : (condition : Ground) (firsts seconds its its2 others sources : List Source) (first : Source) → ((rest : List Source) → AreChosen condition its others rest → AreChosen condition firsts seconds (sources ++ rest))
    → its ≡ first ∷ its2 → others ≡ [] → AreChosen condition firsts seconds sources
chosen_short condition firsts seconds its its2 others sources first inv i e =
    subst (AreChosen condition firsts seconds) (append-nil sources)
    (inv [] (subst (λ l. AreChosen condition l others []) (sym i) (subst (λ l. AreChosen condition (first ∷ its2) l []) (sym e) tt)))
