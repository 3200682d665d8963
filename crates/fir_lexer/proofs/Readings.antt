-- A text has at most one list of pieces, and it has none where it has a fault.
use Rattle.std.proofs.Common.{◌≡◌, ℕ, zero, suc, ◌+◌, ◌<◌, ◌≤◌, true, false, cond, List, [], ◌∷◌, ◌++◌, length, take, drop, get_or, refl, ap, sym, ◌∙◌, arith, ◌⊎◌, inl, inr, ⊎_elim, length-drop, append-nil, append_assoc, add-zero, zero-add, add_assoc}
use Rattle.std.specs.Prelude.{◌==◌, Some, Result, Ok, Err, IfOk, IfErr, MatchResult}
use Rattle.place_text.specs.Places.{place}
use Rattle.fir_lexer.specs.declared.fault.LexFault.{LexFault}
use Rattle.fir_lexer.specs.declared.fault.LexFault.TheVariants.{BadByte, BadToken, NumberRange, NoMemory}
use Rattle.fir_lexer.specs.Faults.{rank_of}
use Rattle.fir_lexer.specs.Ranks.{one_each}
use Rattle.std.specs.List.{prefix_len, take_while, AllPass}
use Rattle.std.proofs.lemmas.List.{drop-drop, drop_all, take-append-drop}
use Rattle.std.proofs.lemmas.Bool.{and_parts, or_cases, eqb-true, false≢true, both_ways}
use Rattle.std.proofs.lemmas.Bool.Decides.{nat_tests}
use Rattle.std.proofs.lemmas.Grind.{common_steps}
use Rattle.fir_lexer.specs.declared.token.Token.{Token}
use Rattle.fir_lexer.specs.declared.token.TokenKind.TheVariants.{Word, Call, Quoted, Digits, Text, Arrow, Mark}
use Rattle.fir_lexer.specs.declared.pieces.PieceKind.{PieceKind}
use Rattle.fir_lexer.specs.declared.pieces.PieceKind.TheVariants.{Blank, Return, LineFeed, Comment, Info, Annotation, TokenOf}
use Rattle.fir_lexer.specs.Bytes.{one_of, begins_word, is_digit, in_word, is_mark}
use Rattle.fir_lexer.specs.Pieces.{begins, GoesOn, IsOf, IsLongest}
use Rattle.fir_lexer.specs.Scan.{front_kind}
use Rattle.fir_lexer.specs.Tokens.{IsPiece, Lexes, no_piece, then_piece, tokens_of, token_of, joined, AreTokens, IsWrong, IsFault}
use Rattle.fir_lexer.proofs.Rests.{alike_cases}
use Rattle.fir_lexer.proofs.Runs.{run_to_end}

-- the kind that a byte leads to, if it begins any
lead : ℕ → PieceKind
lead b = cond (begins_word b) (TokenOf Word) (cond (is_digit b) (TokenOf Digits) (cond (one_of (32 ∷ 9 ∷ 44 ∷ []) b) Blank (cond (b == 13) Return (cond (b == 10) LineFeed
    (cond (b == 59) Comment (cond (b == 64) Info (cond (b == 37) Annotation (cond (b == 96) (TokenOf Quoted) (cond (b == 34) (TokenOf Text) (TokenOf (Mark b)))))))))))

-- what holds of each byte of a list
abbrev AllOf : (ℕ → Type 0) → List ℕ → Type 0
AllOf P [] = Unit {0}
AllOf P (x ∷ xs) = P x × AllOf P xs

-- it holds of one that is listed
listed : (P : ℕ → Type 0) (b : ℕ) (xs : List ℕ) → AllOf P xs → one_of xs b ≡ true → P b
listed P b [] all h = absurd (false≢true h)
listed P b (x ∷ xs) all h = ⊎_elim (λ e. (let same : b ≡ x = eqb-true b x e in rw same all.0)) (λ more. listed P b xs all.1 more) (or_cases (b == x) (one_of xs b) h)

digit_no_word : (b : ℕ) → is_digit b ≡ true → begins_word b ≡ false
digit_no_word b h = grind (arith, nat_tests)

begun_lead : (kind : PieceKind) (b : ℕ) → begins kind b ≡ true → lead b ≡ front_kind kind
unfolding lead
begun_lead Blank b h = listed (λ x. lead x ≡ Blank) b (32 ∷ 9 ∷ 44 ∷ []) (refl, (refl, (refl, tt))) h
begun_lead Return b h = rw (eqb-true b 13 h) refl
begun_lead LineFeed b h = rw (eqb-true b 10 h) refl
begun_lead Comment b h = listed (λ x. lead x ≡ Comment) b (59 ∷ []) (refl, tt) h
begun_lead Info b h = listed (λ x. lead x ≡ Info) b (64 ∷ []) (refl, tt) h
begun_lead Annotation b h = listed (λ x. lead x ≡ Annotation) b (37 ∷ []) (refl, tt) h
begun_lead (TokenOf Word) b h = rw h refl
begun_lead (TokenOf Call) b h = rw h refl
begun_lead (TokenOf Quoted) b h = listed (λ x. lead x ≡ TokenOf Quoted) b (96 ∷ []) (refl, tt) h
begun_lead (TokenOf Digits) b h = rw (digit_no_word b h, h) refl
begun_lead (TokenOf Text) b h = listed (λ x. lead x ≡ TokenOf Text) b (34 ∷ []) (refl, tt) h
begun_lead (TokenOf Arrow) b h = listed (λ x. lead x ≡ TokenOf (Mark 61)) b (61 ∷ []) (refl, tt) h
begun_lead (TokenOf (Mark mark)) b h =
    let same : b ≡ mark = eqb-true b mark (and_parts (b == mark) (is_mark b) h).0 in
    let here = listed (λ x. lead x ≡ TokenOf (Mark x)) b (58 ∷ 46 ∷ 91 ∷ 93 ∷ 40 ∷ 41 ∷ 60 ∷ 62 ∷ 123 ∷ 125 ∷ 61 ∷ 45 ∷ 124 ∷ [])
    (refl, (refl, (refl, (refl, (refl, (refl, (refl, (refl, (refl, (refl, (refl, (refl, (refl, tt))))))))))))) (and_parts (b == mark) (is_mark b) h).1 in
    here ∙ ap (λ x. TokenOf (Mark x)) same

no_word_and_call : (rest : List ℕ) → AllPass in_word rest → rest ≡ take_while in_word rest ++ 40 ∷ [] → ⊥
no_word_and_call rest all e =
    let whole : take (length rest) rest ≡ rest = grind (arith, common_steps) in
    let t = run_to_end in_word 40 rest (length rest) (omega arith) (rw whole e) in
    let yes : in_word (get_or rest (prefix_len in_word rest) 0) ≡ true = all _ 0 (omega (arith, t.0)) in
    let no : in_word 40 ≡ true = rw t.1 at yes in
    cc

clash_word : (k j : PieceKind) (rest behind : List ℕ) → k ≡ TokenOf Word → j ≡ TokenOf Call → GoesOn k rest behind → GoesOn j rest behind → ⊥
clash_word k j rest behind e f p q = no_word_and_call rest (rw e at p) (rw f at q)

clash_mark : (k j : PieceKind) (rest behind : List ℕ) → k ≡ TokenOf (Mark 61) → j ≡ TokenOf Arrow → GoesOn k rest behind → GoesOn j rest behind → ⊥
clash_mark k j rest behind e f p q = let x : rest ≡ [] = rw e at p in let y : rest ≡ 62 ∷ [] = rw f at q in cc

pub same_kind : (k j : PieceKind) (piece behind : List ℕ) → IsOf k piece behind → IsOf j piece behind → k ≡ j
same_kind k j [] behind p q = absurd p
same_kind k j (b ∷ rest) behind p q = by_k (alike_cases k (front_kind j) (sym (begun_lead k b p.0) ∙ begun_lead j b q.0))
  where
    F : Type 0
    F = (j ≡ front_kind j) ⊎ (((j ≡ TokenOf Call) × (front_kind j ≡ TokenOf Word)) ⊎ ((j ≡ TokenOf Arrow) × (front_kind j ≡ TokenOf (Mark 61))))

    as_front : k ≡ front_kind j → F → k ≡ j
    as_front kf f = ⊎_elim (λ jf. kf ∙ sym jf)
        (λ two. ⊎_elim (λ c. absurd (clash_word k j rest behind (kf ∙ c.1) c.0 p.1 q.1)) (λ a. absurd (clash_mark k j rest behind (kf ∙ a.1) a.0 p.1 q.1)) two) f

    as_call : k ≡ TokenOf Call → front_kind j ≡ TokenOf Word → F → k ≡ j
    as_call kc w f = ⊎_elim (λ jf. absurd (clash_word j k rest behind (jf ∙ w) kc q.1 p.1))
        (λ two. ⊎_elim (λ c. kc ∙ sym c.0) (λ a. absurd (let no : TokenOf Word ≡ TokenOf (Mark 61) = sym w ∙ a.1 in cc)) two) f

    as_arrow : k ≡ TokenOf Arrow → front_kind j ≡ TokenOf (Mark 61) → F → k ≡ j
    as_arrow ka m f = ⊎_elim (λ jf. absurd (clash_mark j k rest behind (jf ∙ m) ka q.1 p.1))
        (λ two. ⊎_elim (λ c. absurd (let no : TokenOf (Mark 61) ≡ TokenOf Word = sym m ∙ c.1 in cc)) (λ a. ka ∙ sym a.0) two) f

    by_k : (k ≡ front_kind j) ⊎ (((k ≡ TokenOf Call) × (front_kind j ≡ TokenOf Word)) ⊎ ((k ≡ TokenOf Arrow) × (front_kind j ≡ TokenOf (Mark 61)))) → k ≡ j
    by_k h = let f : F = alike_cases j (front_kind j) refl in
        ⊎_elim (λ kf. as_front kf f) (λ two. ⊎_elim (λ c. as_call c.0 c.1 f) (λ a. as_arrow a.0 a.1 f) two) h

-- a text begins with at most one longest piece
pub longest_unique : (bytes : List ℕ) (k j : PieceKind) (n m : ℕ) → IsLongest bytes k n → IsLongest bytes j m → (k ≡ j) × (n ≡ m)
longest_unique bytes k j n m a b =
    let less : n ≤ m = b.longest k n a.within a.is in
    let more : m ≤ n = a.longest j m b.within b.is in
    let same : m ≡ n = omega arith in
    (same_kind k j (take n bytes) (drop n bytes) a.is (rw same at b.is), omega arith)

pub no_longest_of_none : (k : PieceKind) (n : ℕ) → IsLongest [] k n → ⊥
no_longest_of_none k zero a = a.is
no_longest_of_none k (suc n) a = a.is

pub longest_some : (bytes : List ℕ) (k : PieceKind) (n : ℕ) → IsLongest bytes k n → 0 < n
longest_some bytes k zero a = absurd a.is
longest_some bytes k (suc n) a = omega arith

-- of two readings of a text one goes on where the other stops
pub data GoOn : List ℕ → List (PieceKind × ℕ) → List ℕ → List (PieceKind × ℕ) → Type 0 where
  first_goes_on : (pieces more qs : List (PieceKind × ℕ)) (mid rest : List ℕ) → pieces ≡ qs ++ more → Lexes rest more mid → GoOn mid pieces rest qs
  second_goes_on : (pieces more qs : List (PieceKind × ℕ)) (mid rest : List ℕ) → qs ≡ pieces ++ more → Lexes mid more rest → GoOn mid pieces rest qs

one_more : (k : PieceKind) (n : ℕ) {mid rest : List ℕ} {ps qs : List (PieceKind × ℕ)} → GoOn mid ps rest qs → GoOn mid ((k, n) ∷ ps) rest ((k, n) ∷ qs)
one_more k n (first_goes_on pieces more qs mid rest e l) = first_goes_on _ more _ _ _ (ap (λ xs. (k, n) ∷ xs) e) l
one_more k n (second_goes_on pieces more qs mid rest e l) = second_goes_on _ more _ _ _ (ap (λ xs. (k, n) ∷ xs) e) l

pub compare : {bytes mid rest : List ℕ} {ps qs : List (PieceKind × ℕ)} → Lexes bytes ps mid → Lexes bytes qs rest → GoOn mid ps rest qs
compare (no_piece bytes) other = second_goes_on [] _ _ _ _ refl other
compare (then_piece k n ps bytes mid one more) (no_piece _) = first_goes_on _ ((k, n) ∷ ps) [] _ _ refl (then_piece k n ps bytes mid one more)
compare (then_piece k n ps bytes mid one more) (then_piece j m qs _ rest two further) =
    let same = longest_unique bytes k j n m one.longest two.longest in
    let more' : Lexes (drop m bytes) ps mid = rw same.1 at more in
    let step : GoOn mid ((j, m) ∷ ps) rest ((j, m) ∷ qs) = one_more j m (compare more' further) in
    rw (same.0, same.1) step

pub nothing_from_none : {pieces : List (PieceKind × ℕ)} {bytes rest : List ℕ} → Lexes bytes pieces rest → bytes ≡ [] → (pieces ≡ []) × (rest ≡ [])
nothing_from_none (no_piece rest) e = (refl, e)
nothing_from_none (then_piece k n pieces bytes rest one more) e = absurd (no_longest_of_none k n (rw e at one.longest))

pub one_reading : {bytes : List ℕ} {ps qs : List (PieceKind × ℕ)} → Lexes bytes ps [] → Lexes bytes qs [] → ps ≡ qs
one_reading {ps = ps} {qs = qs} a b = from_both (compare a b) refl refl
  where
    from_both : {mid rest : List ℕ} {ps qs : List (PieceKind × ℕ)} → GoOn mid ps rest qs → mid ≡ [] → rest ≡ [] → ps ≡ qs
    from_both (first_goes_on ps more qs mid rest e l) m r = let none = nothing_from_none l r in rw (e, none.0) (append-nil qs)
    from_both (second_goes_on ps more qs mid rest e l) m r = let none = nothing_from_none l m in rw (e, none.0) (sym (append-nil ps))

pub joined_all : {bytes rest : List ℕ} {pieces : List (PieceKind × ℕ)} → Lexes bytes pieces rest → joined bytes pieces ++ rest ≡ bytes
joined_all (no_piece rest) = refl
joined_all (then_piece k n pieces bytes rest one more) =
    append_assoc (take n bytes) (joined (drop n bytes) pieces) rest ∙ ap (λ xs. take n bytes ++ xs) (joined_all more) ∙ take-append-drop n bytes

-- where something is wrong no piece goes on
stuck : (fault : LexFault) {bytes rest : List ℕ} {pieces : List (PieceKind × ℕ)} → IsWrong fault bytes → Lexes bytes pieces rest → bytes ≡ rest
stuck fault wrong (no_piece rest) = refl
stuck NoMemory wrong (then_piece k n pieces bytes rest one more) = absurd wrong
stuck (BadByte p) wrong (then_piece k n pieces bytes rest one more) = absurd (wrong.0.none k n one.longest.within one.longest.is)
stuck (BadToken p) wrong (then_piece k n pieces bytes rest one more) = absurd (wrong.0.none k n one.longest.within one.longest.is)
stuck (NumberRange p) wrong (then_piece k n pieces bytes rest one more) =
    let same = longest_unique bytes wrong.0 k wrong.1 n wrong.2 one.longest in
    absurd (one.in_range (rw (same.0, same.1) at wrong.3))

same_rank : (fault other : LexFault) (bytes : List ℕ) → IsWrong fault bytes → IsWrong other bytes → rank_of fault ≡ rank_of other
same_rank (BadByte p) (BadByte q) bytes f g = refl
same_rank (BadByte p) (BadToken q) bytes f g = absurd (both_ways _ f.1 g.1)
same_rank (BadByte p) (NumberRange q) bytes f g = absurd (f.0.none g.0 g.1 g.2.within g.2.is)
same_rank (BadToken p) (BadByte q) bytes f g = absurd (both_ways _ g.1 f.1)
same_rank (BadToken p) (BadToken q) bytes f g = refl
same_rank (BadToken p) (NumberRange q) bytes f g = absurd (f.0.none g.0 g.1 g.2.within g.2.is)
same_rank (NumberRange p) (BadByte q) bytes f g = absurd (g.0.none f.0 f.1 f.2.within f.2.is)
same_rank (NumberRange p) (BadToken q) bytes f g = absurd (g.0.none f.0 f.1 f.2.within f.2.is)
same_rank (NumberRange p) (NumberRange q) bytes f g = refl
same_rank NoMemory other bytes f g = absurd f
same_rank (BadByte p) NoMemory bytes f g = absurd g
same_rank (BadToken p) NoMemory bytes f g = absurd g
same_rank (NumberRange p) NoMemory bytes f g = absurd g

-- a text with a fault has no tokens
pub no_tokens : (bytes : List ℕ) (at : ℕ) (fault : LexFault) (tokens : List Token) → IsFault bytes at fault → AreTokens bytes tokens → ⊥
no_tokens bytes at fault tokens f t = from_both (compare f.before.1 t.lexed) refl refl
  where
    long : (left : List ℕ) → left ≡ drop at bytes → left ≡ [] → ⊥
    long left e none = let size : length (drop at bytes) ≡ 0 = rw (sym e, none) refl in omega (arith, size, f.within, length-drop at bytes)

    from_both : {mid rest : List ℕ} {ps qs : List (PieceKind × ℕ)} → GoOn mid ps rest qs → mid ≡ drop at bytes → rest ≡ [] → ⊥
    from_both (first_goes_on ps more qs mid rest e l) m r = long mid m (nothing_from_none l r).1
    from_both (second_goes_on ps more qs mid rest e l) m r = long mid m (stuck fault (rw m f.here) l ∙ r)

-- a text has at most one fault
pub one_fault : (bytes : List ℕ) (at to : ℕ) (fault other : LexFault) → IsFault bytes at fault → IsFault bytes to other → (at ≡ to) × (fault ≡ other)
one_fault bytes at to fault other f g =
    let same : drop at bytes ≡ drop to bytes = from_both (compare f.before.1 g.before.1) refl refl in
    let long : length (drop at bytes) ≡ length (drop to bytes) = ap length same in
    let one : at ≡ to = omega (arith, long, f.within, g.within, length-drop at bytes, length-drop to bytes) in
    (one, one_each fault other (f.stands ∙ ap (λ k. Some (place bytes k)) one ∙ sym g.stands) (same_rank fault other (drop at bytes) f.here (rw same g.here)))
  where
    from_both : {mid rest : List ℕ} {ps qs : List (PieceKind × ℕ)} → GoOn mid ps rest qs → mid ≡ drop at bytes → rest ≡ drop to bytes → drop at bytes ≡ drop to bytes
    from_both (first_goes_on ps more qs mid rest e l) m r = sym m ∙ sym (stuck other (rw r g.here) l) ∙ r
    from_both (second_goes_on ps more qs mid rest e l) m r = sym m ∙ stuck fault (rw m f.here) l ∙ r

-- a text has at most one list of tokens
pub one_tokens : (bytes : List ℕ) (xs ys : List Token) → AreTokens bytes xs → AreTokens bytes ys → xs ≡ ys
one_tokens bytes xs ys a b = a.made ∙ ap (tokens_of 0) (one_reading a.lexed b.lexed) ∙ sym b.made

-- what an answer that is right says of another that is right

pub accepts_from : {V : Type 0} (items : V → List Token) (bytes : List ℕ) (result : Result V LexFault) → IfOk result (λ v. AreTokens bytes (items v))
    → IfErr result (λ fault. (fault ≡ NoMemory) ⊎ ((at : ℕ) × IsFault bytes at fault))
    → (tokens : List Token) → AreTokens bytes tokens → MatchResult result (λ v. items v ≡ tokens) (λ fault. fault ≡ NoMemory)
accepts_from items bytes (Ok v) ok err tokens are = one_tokens bytes _ _ ok are
accepts_from items bytes (Err fault) ok err tokens are = ⊎_elim (λ e. e) (λ f. absurd (no_tokens bytes f.0 fault tokens f.1 are)) err

pub refuses_from : {V : Type 0} (items : V → List Token) (bytes : List ℕ) (result : Result V LexFault) → IfOk result (λ v. AreTokens bytes (items v))
    → IfErr result (λ fault. (fault ≡ NoMemory) ⊎ ((at : ℕ) × IsFault bytes at fault))
    → (at : ℕ) (fault : LexFault) → IsFault bytes at fault → MatchResult result (λ v. ⊥) (λ given. (given ≡ NoMemory) ⊎ (given ≡ fault))
refuses_from items bytes (Ok v) ok err at fault is = no_tokens bytes at fault _ is ok
refuses_from items bytes (Err given) ok err at fault is = ⊎_elim (λ e. inl e) (λ f. inr (one_fault bytes f.0 at given fault f.1 is).1) err

-- one more piece at the end
pub Lexes-push : {bytes mid : List ℕ} {pieces : List (PieceKind × ℕ)} {kind : PieceKind} {n : ℕ} → Lexes bytes pieces mid → IsPiece mid kind n
    → Lexes bytes (pieces ++ (kind, n) ∷ []) (drop n mid)
Lexes-push (no_piece rest) one = then_piece _ _ [] _ _ one (no_piece _)
Lexes-push (then_piece k m pieces bytes rest first more) one = then_piece k m _ _ _ first (Lexes-push more one)

-- how many bytes pieces have
abbrev pub pieces_len : List (PieceKind × ℕ) → ℕ
pieces_len [] = 0
pieces_len (p ∷ ps) = p.1 + pieces_len ps

pub tokens_of-append : (at : ℕ) (ps qs : List (PieceKind × ℕ)) → tokens_of at (ps ++ qs) ≡ tokens_of at ps ++ tokens_of (at + pieces_len ps) qs
tokens_of-append at [] qs = rw add-zero refl
tokens_of-append at (p ∷ ps) qs = rw (tokens_of-append (at + p.1) ps qs, add_assoc) (sym (append_assoc (token_of p.0 at (at + p.1)) _ _))

pub pieces_len-append : (ps qs : List (PieceKind × ℕ)) → pieces_len (ps ++ qs) ≡ pieces_len ps + pieces_len qs
pieces_len-append [] qs = sym (zero-add _)
pieces_len-append (p ∷ ps) qs = rw (pieces_len-append ps qs) (sym (add_assoc p.1 _ _))

-- what was lexed up to an offset
pub record LexedTo (bytes : List ℕ) (tokens : List Token) (at : ℕ) : Type 0 where
  pub pieces : List (PieceKind × ℕ)
  pub lexed : Lexes bytes pieces (drop at bytes)
  pub counted : pieces_len pieces ≡ at
  pub made : tokens ≡ tokens_of 0 pieces

pub none_lexed : (bytes : List ℕ) → LexedTo bytes [] 0
none_lexed bytes = record { pieces = []; lexed = no_piece bytes; counted = refl; made = refl }

pub piece_lexed : (bytes : List ℕ) (tokens : List Token) (at n : ℕ) (kind : PieceKind) → LexedTo bytes tokens at → IsPiece (drop at bytes) kind n
    → LexedTo bytes (tokens ++ token_of kind at (at + n)) (at + n)
piece_lexed bytes tokens at n kind l one = record {
  pieces = l.pieces ++ (kind, n) ∷ [];
  lexed = rw drop-drop at (Lexes-push l.lexed one);
  counted = rw (pieces_len-append l.pieces _) (omega (arith, l.counted));
  made = rw (tokens_of-append 0 l.pieces ((kind, n) ∷ []), l.made, zero-add, l.counted, append-nil) refl;
}

pub all_lexed : (bytes : List ℕ) (tokens : List Token) (at : ℕ) → length bytes ≤ at → LexedTo bytes tokens at → AreTokens bytes tokens
all_lexed bytes tokens at e l = let past : drop at bytes ≡ [] = drop_all at bytes e in record { pieces = l.pieces; lexed = rw past at l.lexed; made = l.made }
