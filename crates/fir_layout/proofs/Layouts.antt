-- Lines one behind the other, and that a text has at most one layout.
use Rattle.std.proofs.Common.{◌≡◌, ℕ, ◌-◌, ◌≤◌, List, [], ◌∷◌, ◌++◌, length, take, drop, refl, ap, sym, ◌∙◌, arith, append_assoc, append-nil, inl, inr, ⊎_elim, ◌⊎◌}
use Rattle.std.specs.Prelude.{Result, Ok, Err, IfOk, IfErr, MatchResult, replicate}
use Rattle.place_text.specs.declared.place.Place.{Place}
use Rattle.fir_lexer.specs.declared.token.Token.{Token}
use Rattle.fir_lexer.specs.declared.pieces.PieceKind.{PieceKind}
use Rattle.fir_lexer.specs.Tokens.{Lexes, AreTokens}
use Rattle.fir_lexer.proofs.Readings.{one_reading, nothing_from_none}
use Rattle.std.proofs.lemmas.List.{drop_all}
use Rattle.fir_layout.specs.declared.laid.Laid.{Laid}
use Rattle.fir_layout.specs.declared.laid.Laid.TheVariants.{Close, End}
use Rattle.fir_layout.specs.declared.fault.LayoutFault.{LayoutFault}
use Rattle.fir_layout.specs.declared.fault.LayoutFault.TheVariants.{BadIndent, NoMemory}
use Rattle.fir_layout.specs.Layout.{Line, OfLine, OfLines, no_line, then_line, IsLaidOut, IsBadIndent, lines_of, content}
use Rattle.fir_layout.specs.Walk.{Ahead, PassesLine}
use Rattle.fir_layout.proofs.Turning.{line_unique}

-- one more line at the end
pub OfLines-push : {text first blocks next : List ℕ} {lines rest : List Line} {line : Line} {laid more : List Laid} → OfLines text first lines laid blocks (line ∷ rest)
    → OfLine text blocks line more next → OfLines text first lines (laid ++ more) next rest
OfLines-push {text = text} {next = next} {rest = rest} {line = line} {more = more} (no_line blocks lines) one =
    let last : OfLines text blocks (line ∷ rest) (more ++ []) next rest = then_line _ _ _ _ _ _ more [] one (no_line _ _) in rw append-nil at last
OfLines-push (then_line blocks mid after line lines rest laid more' first further) one = rw append_assoc (then_line _ _ _ _ _ _ _ _ first (OfLines-push further one))

-- Of two layouts of the same lines one goes on where the other stops.
pub data GoOn (text : List ℕ) : List ℕ → List Line → List Laid → List ℕ → List Line → List Laid → Type 0 where
  first_goes_on : (a b : List ℕ) (p q : List Line) (xs more ys : List Laid) → xs ≡ ys ++ more → OfLines text b q more a p → GoOn text a p xs b q ys
  second_goes_on : (a b : List ℕ) (p q : List Line) (xs more ys : List Laid) → ys ≡ xs ++ more → OfLines text a p more b q → GoOn text a p xs b q ys

one_more : {text : List ℕ} (front : List Laid) {a b : List ℕ} {p q : List Line} {xs ys : List Laid} → GoOn text a p xs b q ys → GoOn text a p (front ++ xs) b q (front ++ ys)
one_more front (first_goes_on a b p q xs more ys e l) = first_goes_on _ _ _ _ _ more _ (ap (λ zs. front ++ zs) e ∙ sym (append_assoc front ys more)) l
one_more front (second_goes_on a b p q xs more ys e l) = second_goes_on _ _ _ _ _ more _ (ap (λ zs. front ++ zs) e ∙ sym (append_assoc front xs more)) l

pub compare : {text first a b : List ℕ} {lines p q : List Line} {xs ys : List Laid} → OfLines text first lines xs a p → OfLines text first lines ys b q → GoOn text a p xs b q ys
compare (no_line blocks lines) other = second_goes_on _ _ _ _ [] _ _ refl other
compare (then_line blocks next after line lines rest laid more one further) (no_line _ _) =
    first_goes_on _ _ _ _ _ (laid ++ more) [] refl (then_line blocks next after line lines rest laid more one further)
compare {text = text} {a = a} {p = p} (then_line blocks next after line lines rest laid more one further) (then_line _ next2 after2 _ _ rest2 laid2 more2 two further2) =
    let same = line_unique one two in
    let further' : OfLines text next2 lines more after rest = rw same.1 at further in
    let step : GoOn text after rest (laid2 ++ more) after2 rest2 (laid2 ++ more2) = one_more laid2 (compare further' further2) in
    rw same.0 step

nothing_behind_end : {text a b : List ℕ} {p q : List Line} {xs : List Laid} → OfLines text a p xs b q → p ≡ [] → (xs ≡ []) × (b ≡ a) × (q ≡ [])
nothing_behind_end (no_line blocks lines) e = (refl, refl, e)
nothing_behind_end (then_line blocks next after line lines rest laid more one further) e = cc

-- where a line has no case, no line goes on
stuck : {text a b : List ℕ} {p q rest : List Line} {line : Line} {xs : List Laid} → ((laid : List Laid) (after : List ℕ) → OfLine text a line laid after → ⊥)
    → OfLines text a p xs b q → p ≡ line ∷ rest → q ≡ line ∷ rest
stuck none (no_line blocks lines) e = e
stuck {text = text} {line = wrong} none (then_line blocks next after line lines rest laid more one further) e =
    let same : line ≡ wrong = cc in absurd (none laid next (rw same at one))

pub one_layout : (text : List ℕ) (xs ys : List Laid) → IsLaidOut text xs → IsLaidOut text ys → xs ≡ ys
one_layout text xs ys f g =
    let pieces : f.pieces ≡ g.pieces = one_reading f.lexed g.lexed in
    let lines : OfLines text [] (lines_of 0 g.pieces) f.body f.blocks [] = rw pieces at f.lines in
    let same = both (compare lines g.lines) refl refl in
    f.made ∙ ap (λ (bs : List Laid). (bs ++ replicate (length f.blocks) (Close (length text))) ++ End (length text) ∷ []) same.0
    ∙ ap (λ (cs : List ℕ). (g.body ++ replicate (length cs) (Close (length text))) ++ End (length text) ∷ []) same.1 ∙ sym g.made
  where
    both : {a b : List ℕ} {p q : List Line} {xs ys : List Laid} → GoOn text a p xs b q ys → p ≡ [] → q ≡ [] → (xs ≡ ys) × (a ≡ b)
    both (first_goes_on a b p q xs more ys e l) m r = let n = nothing_behind_end l r in (rw (e, n.0) (append-nil ys), n.1)
    both (second_goes_on a b p q xs more ys e l) m r = let n = nothing_behind_end l m in (rw (e, n.0) (sym (append-nil xs)), sym n.1)

pub no_layout : (text : List ℕ) (at : ℕ) (xs : List Laid) → IsBadIndent text at → IsLaidOut text xs → ⊥
no_layout text at xs f g =
    let pieces : g.pieces ≡ f.pieces = one_reading g.lexed f.lexed in
    let lines : OfLines text [] (lines_of 0 f.pieces) g.body g.blocks [] = rw pieces at g.lines in
    both f.no_case (compare f.before lines) refl refl
  where
    both : {a b : List ℕ} {p q rest : List Line} {line : Line} {xs ys : List Laid} → ((laid : List Laid) (after : List ℕ) → OfLine text a line laid after → ⊥)
        → GoOn text a p xs b q ys → p ≡ line ∷ rest → q ≡ [] → ⊥
    both none (first_goes_on a b p q xs more ys e l) m r = let n = nothing_behind_end l r in let bad = sym n.2 ∙ m in cc
    both none (second_goes_on a b p q xs more ys e l) m r = let t = stuck none l m in let bad = sym r ∙ t in cc

pub one_bad_indent : (text : List ℕ) (at other : ℕ) → IsBadIndent text at → IsBadIndent text other → at ≡ other
one_bad_indent text at other f g =
    let pieces : g.pieces ≡ f.pieces = one_reading g.lexed f.lexed in
    let lines : OfLines text [] (lines_of 0 f.pieces) g.body g.blocks (g.line ∷ g.rest) = rw pieces at g.before in
    f.here ∙ ap (content text) (both f.no_case g.no_case (compare f.before lines) refl refl) ∙ sym g.here
  where
    both : {a b : List ℕ} {p q rest rest2 : List Line} {line line2 : Line} {xs ys : List Laid} → ((laid : List Laid) (after : List ℕ) → OfLine text a line laid after → ⊥)
        → ((laid : List Laid) (after : List ℕ) → OfLine text b line2 laid after → ⊥) → GoOn text a p xs b q ys → p ≡ line ∷ rest → q ≡ line2 ∷ rest2 → line ≡ line2
    both none none2 (first_goes_on a b p q xs more ys e l) m r = let t = stuck none2 l r in let same = sym m ∙ t in cc
    both none none2 (second_goes_on a b p q xs more ys e l) m r = let t = stuck none l m in let same = sym t ∙ r in cc

pub accepts_from : {V : Type 0} (parts : V → List Laid) (at_place : ℕ → Place) (text : List ℕ) (result : Result V LayoutFault) → IfOk result (λ v. IsLaidOut text (parts v))
    → IfErr result (λ fault. (fault ≡ NoMemory) ⊎ ((at : ℕ) × IsBadIndent text at × (fault ≡ BadIndent (at_place at))))
    → (laid : List Laid) → IsLaidOut text laid → MatchResult result (λ v. parts v ≡ laid) (λ fault. fault ≡ NoMemory)
accepts_from parts at_place text (Ok v) ok err laid is = one_layout text _ _ ok is
accepts_from parts at_place text (Err fault) ok err laid is = ⊎_elim (λ e. e) (λ f. absurd (no_layout text f.0 laid f.1 is)) err

pub refuses_from : {V : Type 0} (parts : V → List Laid) (at_place : ℕ → Place) (text : List ℕ) (result : Result V LayoutFault) → IfOk result (λ v. IsLaidOut text (parts v))
    → IfErr result (λ fault. (fault ≡ NoMemory) ⊎ ((at : ℕ) × IsBadIndent text at × (fault ≡ BadIndent (at_place at))))
    → (at : ℕ) → IsBadIndent text at → MatchResult result (λ v. ⊥) (λ fault. (fault ≡ NoMemory) ⊎ (fault ≡ BadIndent (at_place at)))
refuses_from parts at_place text (Ok v) ok err at is = no_layout text at _ is ok
refuses_from parts at_place text (Err fault) ok err at is = ⊎_elim (λ e. inl e) (λ f. (let same = one_bad_indent text f.0 at f.1 is in inr (rw same at f.2))) err

-- how far a text was laid out
pub record LaidTo (text : List ℕ) (tokens : List Token) (start next : ℕ) (laid : List Laid) (blocks : List ℕ) : Type 0 where
  pub pieces : List (PieceKind × ℕ)
  pub lexed : Lexes text pieces []
  pub left : List (PieceKind × ℕ)
  pub ahead : Ahead text tokens start next left
  pub lines : OfLines text [] (lines_of 0 pieces) laid blocks (lines_of start left)

pub none_laid : {text : List ℕ} {tokens : List Token} → AreTokens text tokens → LaidTo text tokens 0 0 [] []
none_laid a = record {
  pieces = a.pieces;
  lexed = a.lexed;
  left = a.pieces;
  ahead = record { within = omega arith; counted = omega arith; lexed = a.lexed; theirs = a.made };
  lines = no_line _ _;
}

pub line_laid : {text : List ℕ} {tokens : List Token} {start next : ℕ} {laid more : List Laid} {blocks after_blocks : List ℕ} (end after : ℕ)
    → (l : LaidTo text tokens start next laid blocks) → PassesLine text tokens start next l.left end after
    → OfLine text blocks (record { start = start; tokens = take (after - next) (drop next tokens) }) more after_blocks → LaidTo text tokens end after (laid ++ more) after_blocks
line_laid end after l p one = record {
  pieces = l.pieces;
  lexed = l.lexed;
  left = p.rest;
  ahead = p.ahead;
  lines = OfLines-push (rw p.lines at l.lines) one;
}

pub all_laid : {text : List ℕ} {tokens : List Token} {start next : ℕ} {laid : List Laid} {blocks : List ℕ} → LaidTo text tokens start next laid blocks → length text ≤ start
    → IsLaidOut text ((laid ++ replicate (length blocks) (Close (length text))) ++ End (length text) ∷ [])
all_laid {text = text} {start = start} {laid = laid} {blocks = blocks} l past =
    let none = nothing_from_none l.ahead.lexed (drop_all start text past) in
    record { pieces = l.pieces; lexed = l.lexed; body = laid; blocks = blocks; lines = rw none.0 at l.lines; made = refl }

pub bad_line : {text : List ℕ} {tokens : List Token} {start next : ℕ} {laid : List Laid} {blocks : List ℕ} (end after : ℕ) → (l : LaidTo text tokens start next laid blocks)
    → PassesLine text tokens start next l.left end after
    → ((more : List Laid) (behind : List ℕ) → OfLine text blocks (record { start = start; tokens = take (after - next) (drop next tokens) }) more behind → ⊥)
    → IsBadIndent text (content text (record { start = start; tokens = take (after - next) (drop next tokens) }))
bad_line end after l p none = record {
  pieces = l.pieces;
  lexed = l.lexed;
  body = _;
  blocks = _;
  line = _;
  rest = _;
  before = rw p.lines at l.lines;
  no_case = none;
  here = refl;
}
