-- A list that is laid out spells no block empty: behind each mark that opens a block stands a token.
use Rattle.std.proofs.Common.{ℕ, List, [], ◌∷◌, ◌++◌, map, length, replicate, refl, sym, subst, append_assoc}
use Rattle.std.specs.Prelude.{⊤, ◌≢◌, suc, zero}
use Rattle.fir_lexer.specs.declared.token.Token.{Token}
use Rattle.fir_layout.specs.declared.laid.Laid.{Laid}
use Rattle.fir_layout.specs.declared.laid.Laid.TheVariants.{Item, LineEnd, Open, Close, End}
use Rattle.fir_layout.specs.Layout.{Line, Turns, greater, equal, smaller, items, end_of, OfLine, skipped, filled, OfLines, no_line, then_line, IsLaidOut}

abbrev pub Follows : Laid → List Laid → Type 0
Follows (Open at) (Close next ∷ ls) = ⊥
Follows _ _ = ⊤

abbrev pub Solid : List Laid → Type 0
Solid [] = ⊤
Solid (l ∷ ls) = Follows l ls × Solid ls

solid_closes : (n at : ℕ) (ls : List Laid) → Solid ls → Solid (replicate n (Close at) ++ ls)
solid_closes zero at ls s = s
solid_closes (suc n) at ls s = (tt, solid_closes n at ls s)

solid_tokens : (tokens : List Token) (end : ℕ) (ls : List Laid) → Solid ls → Solid ((map Item tokens ++ LineEnd end ∷ []) ++ ls)
solid_tokens [] end ls s = (tt, s)
solid_tokens (t ∷ ts) end ls s = (tt, solid_tokens ts end ls s)

solid_line : {blocks : List ℕ} {indent at : ℕ} {after : List ℕ} {turns : List Laid} → Turns blocks indent at turns after → (tokens : List Token) → tokens ≢ [] → (ls : List Laid) → Solid ls
    → Solid ((turns ++ items tokens) ++ ls)
solid_line turn [] some ls s = absurd (some refl)
solid_line (greater h) (t ∷ ts) some ls s = (tt, solid_tokens (t ∷ ts) (end_of (t ∷ ts)) ls s)
solid_line (equal h) (t ∷ ts) some ls s = solid_tokens (t ∷ ts) (end_of (t ∷ ts)) ls s
solid_line {at = at} {turns = turns} (smaller h k) (t ∷ ts) some ls s =
    subst Solid (sym (append_assoc turns (items (t ∷ ts)) ls)) (solid_closes _ at (items (t ∷ ts) ++ ls) (solid_tokens (t ∷ ts) (end_of (t ∷ ts)) ls s))

solid_of_line : {text blocks after : List ℕ} {line : Line} {laid : List Laid} → OfLine text blocks line laid after → (ls : List Laid) → Solid ls → Solid (laid ++ ls)
solid_of_line (skipped e) ls s = s
solid_of_line {line = line} (filled turns after some tabless turn) ls s = solid_line turn line.tokens some ls s

solid_lines : {text blocks after : List ℕ} {lines rest : List Line} {laid : List Laid} → OfLines text blocks lines laid after rest → (ls : List Laid) → Solid ls → Solid (laid ++ ls)
solid_lines (no_line blocks lines) ls s = s
solid_lines (then_line blocks next after line lines rest laid more first others) ls s =
    subst Solid (sym (append_assoc laid more ls)) (solid_of_line first (more ++ ls) (solid_lines others ls s))

pub laid_out_solid : {text : List ℕ} {list : List Laid} → IsLaidOut text list → Solid list
laid_out_solid {text} l =
    let ends : List Laid = End (length text) ∷ [] in
    let closes : List Laid = replicate (length l.blocks) (Close (length text)) in
    subst Solid (sym l.made) (subst Solid (sym (append_assoc l.body closes ends))
    (solid_lines l.lines (closes ++ ends) (solid_closes (length l.blocks) (length text) ends (tt, tt))))
