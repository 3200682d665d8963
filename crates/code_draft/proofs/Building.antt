-- Pieces one behind the other, as they are made.
use Rattle.std.proofs.Common.{◌≡◌, ℕ, zero, suc, ◌*◌, ◌≤◌, true, List, [], ◌∷◌, ◌++◌, length, take, slice_get, Some, None, Contains, refl, sym, subst, ap, ◌∙◌, arith, ⊎_elim, append_assoc, append-nil, length-append}
use Rattle.std.proofs.lemmas.List.Concat.{flat_map-append}
use Rattle.std.proofs.lemmas.List.Elements.{Contains-append_cases}
use Rattle.std.proofs.lemmas.Option.{slice_get_within, get_or_from_slice_get}
use Rattle.flat_code.specs.declared.instr.Port.{Port}
use Rattle.flat_code.specs.declared.instr.Wide.{Wide}
use Rattle.flat_code.specs.Fine.{among}
use Rattle.code_draft.specs.declared.draft.Draft.{Draft}
use Rattle.code_draft.specs.Segments.{GoesOn, Stretch, Segment}
use Rattle.code_draft.proofs.Joining.{goes_same, goes_then}
use Rattle.code_draft.specs.Pieces.{Piece, instrs_of, Follow, end_of, StandsIn, IsPiece, GoesBy, AddsPieces, AssignsPieces}

some_same : {A : Type 0} {x y : A} → Some x ≡ Some y → x ≡ y
some_same e = cc

none_some : {A : Type 0} {x : A} → None ≡ Some x → ⊥
none_some e = cc

-- Pieces and those behind them

end_on : (ps qs : List Piece) (from : ℕ) → end_of from (ps ++ qs) ≡ end_of (end_of from ps) qs
end_on [] qs from = refl
end_on (p ∷ ps) qs from = end_on ps qs p.last

pub follow_on : (ps qs : List Piece) (from : ℕ) → Follow from ps → Follow (end_of from ps) qs → Follow from (ps ++ qs)
follow_on [] qs from f g = g
follow_on (p ∷ ps) qs from f g = (f.0, f.1, follow_on ps qs p.last f.2 g)

pub goes_not : (d : Draft) → GoesBy d d []
goes_not d = record { is = sym (append-nil d.instrs); tables = goes_same d; follow = tt; ends = refl }

pub goes_further : (a b c : Draft) (ps qs : List Piece) → GoesBy a b ps → GoesBy b c qs → GoesBy a c (ps ++ qs)
goes_further a b c ps qs f g = record {
  is = g.is ∙ (ap (λ is. is ++ instrs_of qs) f.is ∙ (append_assoc a.instrs (instrs_of ps) (instrs_of qs) ∙ ap (λ is. a.instrs ++ is) (sym (flat_map-append (λ (p : Piece). p.instrs) ps qs))));
  tables = goes_then a b c.ports c.wides f.tables g.tables;
  follow = follow_on ps qs a.slots f.follow (subst (λ n. Follow n qs) (sym f.ends) g.follow);
  ends = end_on ps qs a.slots ∙ (ap (λ n. end_of n qs) f.ends ∙ g.ends);
}

-- A segment as a piece

abbrev pub piece_of : (a b : Draft) (outer kept : List ℕ) (n : ℕ) → Segment a b outer kept n → Piece
piece_of a b outer kept n s = record { instrs = s.instrs; first = a.slots; last = b.slots }

pub goes_one : (a b : Draft) (outer kept : List ℕ) (n : ℕ) (s : Segment a b outer kept n) → GoesBy a b (piece_of a b outer kept n s ∷ [])
goes_one a b outer kept n s = record {
  is = s.is ∙ ap (λ is. a.instrs ++ is) (sym (append-nil s.instrs));
  tables = s.tables;
  follow = (omega arith, s.slots, tt);
  ends = refl;
}

is_piece : (locations : ℕ → List ℕ) (earlier read : List ℕ) (count : ℕ) (a b : Draft) (outer kept : List ℕ) (n : ℕ) (s : Segment a b outer kept n) → ((k : ℕ) → among outer k ≡ true → StandsIn locations earlier read k)
    → n ≤ 2 * count → (ports : List Port) (wides : List Wide) → GoesOn b ports wides → IsPiece ports wides locations earlier read kept count (piece_of a b outer kept n s)
is_piece locations earlier read count a b outer kept n s outside le ports wides on =
    record { outer = outer; outside = outside; there = s.there; most = n; few = le; stretch = s.each ports wides on }

-- Pieces that keep nothing

only_one : (q p : Piece) → Contains (q ∷ []) p → q ≡ p
only_one q p (zero, lt, e) = e
only_one q p (suc k, lt, e) = absurd (omega (arith, lt))

none_there : (p : Piece) → Contains [] p → ⊥
none_there p c = omega (arith, c.1)

module _ (locations : ℕ → List ℕ) (earlier read counts : List ℕ) where
  pub adds_not : (d : Draft) → AddsPieces locations earlier read counts d d
  adds_not d = record { pieces = []; goes = goes_not d; each = λ ports wides on p c. absurd (none_there p c) }

  pub adds_then : (a b c : Draft) → AddsPieces locations earlier read counts a b → AddsPieces locations earlier read counts b c → AddsPieces locations earlier read counts a c
  adds_then a b c f g = record {
    pieces = f.pieces ++ g.pieces;
    goes = goes_further a b c f.pieces g.pieces f.goes g.goes;
    each = λ ports wides on p there. ⊎_elim
        (λ l. f.each ports wides (goes_then b c ports wides g.goes.tables on) p l)
        (λ r. g.each ports wides on p r)
        (Contains-append_cases f.pieces g.pieces p there);
  }

  pub adds_segment : (outer : List ℕ) (count n : ℕ) (a b : Draft) → Contains counts count → Segment a b outer [] n → ((k : ℕ) → among outer k ≡ true → StandsIn locations earlier read k) → n ≤ 2 * count
      → AddsPieces locations earlier read counts a b
  adds_segment outer count n a b counted s outside le = record {
    pieces = piece_of a b outer [] n s ∷ [];
    goes = goes_one a b outer [] n s;
    each = λ ports wides on p c. record {
      count = count;
      counted = counted;
      piece = subst (IsPiece ports wides locations earlier read [] count) (only_one (piece_of a b outer [] n s) p c) (is_piece locations earlier read count a b outer [] n s outside le ports wides on);
    };
  }

  -- more may be read, and have more numbers of nodes
  pub adds_so : (all more_counts : List ℕ) (a b : Draft) → ((x : ℕ) → Contains read x → Contains all x) → ((n : ℕ) → Contains counts n → Contains more_counts n) → AddsPieces locations earlier read counts a b
      → AddsPieces locations earlier all more_counts a b
  adds_so all more_counts a b f g adds = record {
    pieces = adds.pieces;
    goes = adds.goes;
    each = λ ports wides on p c.
        let it = adds.each ports wides on p c in
        record { count = it.count; counted = g it.count it.counted; piece = read_more it.count ports wides p it.piece };
  }
    where
      read_more : (count : ℕ) (ports : List Port) (wides : List Wide) (p : Piece) → IsPiece ports wides locations earlier read [] count p → IsPiece ports wides locations earlier all [] count p
      read_more count ports wides p it = record {
        outer = it.outer;
        outside = λ k o. let s = it.outside k o in record { leaf = s.leaf; before = s.before; wanted = f s.leaf s.wanted; there = s.there };
        there = it.there;
        most = it.most;
        few = it.few;
        stretch = it.stretch;
      }

-- Pieces of leaves in turn

module _ (ports : List Port) (wides : List Wide) (locations reads : ℕ → List ℕ) (counts : ℕ → ℕ) where
  abbrev Assigns : List ℕ → ℕ → Piece → Type 0
  Assigns earlier x p = IsPiece ports wides locations earlier (reads x) (locations x) (counts x) p

  push_at : (x : ℕ) (p : Piece) (done leaves : List ℕ) (pieces : List Piece) → length pieces ≡ length leaves
      → ((k y : ℕ) (q : Piece) → slice_get leaves k ≡ Some y → slice_get pieces k ≡ Some q → Assigns (done ++ take k leaves) y q)
      → Assigns (done ++ leaves) x p → (k y : ℕ) (q : Piece) → slice_get (leaves ++ x ∷ []) k ≡ Some y → slice_get (pieces ++ p ∷ []) k ≡ Some q
      → Assigns (done ++ take k (leaves ++ x ∷ [])) y q
  push_at x p done [] [] long each it zero y q at there = subst (λ z. Assigns (done ++ []) z q) (some_same at) (subst (λ r. Assigns (done ++ []) x r) (some_same there) it)
  push_at x p done [] [] long each it (suc k) y q at there = absurd (none_some at)
  push_at x p done [] (r ∷ pieces) long each it k y q at there = absurd (omega (arith, long))
  push_at x p done (z ∷ leaves) [] long each it k y q at there = absurd (omega (arith, long))
  push_at x p done (z ∷ leaves) (r ∷ pieces) long each it zero y q at there = each 0 y q at there
  push_at x p done (z ∷ leaves) (r ∷ pieces) long each it (suc k) y q at there =
      subst (λ earlier. Assigns earlier y q) (append_assoc done (z ∷ []) (take k (leaves ++ x ∷ [])))
      (push_at x p (done ++ z ∷ []) leaves pieces (omega (arith, long))
      (λ j w t a b. subst (λ earlier. Assigns earlier w t) (sym (append_assoc done (z ∷ []) (take j leaves))) (each (suc j) w t a b))
      (subst (λ earlier. Assigns earlier x p) (sym (append_assoc done (z ∷ []) leaves)) it)
      k y q at there)

  -- in other slots, where those of these leaves are the same
  same_piece : (others : ℕ → List ℕ) (leaves : List ℕ) (x : ℕ) (p : Piece) → ((y : ℕ) → Contains leaves y → others y ≡ locations y) → others x ≡ locations x → Assigns leaves x p
      → IsPiece ports wides others leaves (reads x) (others x) (counts x) p
  same_piece others leaves x p same here it = record {
    outer = it.outer;
    outside = λ k o. let s = it.outside k o in record { leaf = s.leaf; before = s.before; wanted = s.wanted; there = ap (λ ks. among ks k) (same s.leaf s.before) ∙ s.there };
    there = λ k e. it.there k (sym (ap (λ ks. among ks k) here) ∙ e);
    most = it.most;
    few = it.few;
    stretch = subst (λ kept. Stretch p.first p.last it.outer kept it.most ports wides p.instrs) (sym here) it.stretch;
  }

contains_at : (xs : List ℕ) (k x : ℕ) → slice_get xs k ≡ Some x → Contains xs x
contains_at xs k x e = (k, slice_get_within xs k x e, get_or_from_slice_get xs k x x e)

contains_take : (xs : List ℕ) (k y : ℕ) → Contains (take k xs) y → Contains xs y
contains_take xs zero y c = absurd (omega (arith, c.1))
contains_take [] (suc k) y c = c
contains_take (x ∷ xs) (suc k) y (zero, lt, e) = (zero, omega arith, e)
contains_take (x ∷ xs) (suc k) y (suc j, lt, e) = let later = contains_take xs k y (j, omega (arith, lt), e) in (suc later.0, omega (arith, later.1), later.2)

module _ (locations reads : ℕ → List ℕ) (counts : ℕ → ℕ) where
  pub assigns_not : (d : Draft) → AssignsPieces locations reads counts [] d d
  assigns_not d = record { pieces = []; goes = goes_not d; counted = refl; each = λ ports wides on k x p at there. absurd (none_some at) }

  pub assigns_push : (leaves outer : List ℕ) (x n : ℕ) (a b c : Draft) → AssignsPieces locations reads counts leaves a b → Segment b c outer (locations x) n → ((k : ℕ) → among outer k ≡ true → StandsIn locations leaves (reads x) k)
      → n ≤ 2 * counts x → AssignsPieces locations reads counts (leaves ++ x ∷ []) a c
  assigns_push leaves outer x n a b c f s outside le =
      let p = piece_of b c outer (locations x) n s in
      let counted = f.counted in
      let one = length-append f.pieces (p ∷ []) in
      let more = length-append leaves (x ∷ []) in
      record {
        pieces = f.pieces ++ p ∷ [];
        goes = goes_further a b c f.pieces (p ∷ []) f.goes (goes_one b c outer (locations x) n s);
        counted = omega (arith, counted, one, more);
        each = λ ports wides on. push_at ports wides locations reads counts x p [] leaves f.pieces f.counted
            (f.each ports wides (goes_then b c ports wides s.tables on))
            (is_piece locations leaves (reads x) (counts x) b c outer (locations x) n s outside le ports wides on);
      }

  pub assigns_same : (others : ℕ → List ℕ) (leaves : List ℕ) (a b : Draft) → AssignsPieces locations reads counts leaves a b → ((y : ℕ) → Contains leaves y → others y ≡ locations y) → AssignsPieces others reads counts leaves a b
  assigns_same others leaves a b f same = record {
    pieces = f.pieces;
    goes = f.goes;
    counted = f.counted;
    each = λ ports wides on k x p at there. same_piece ports wides locations reads counts others (take k leaves) x p (λ y c. same y (contains_take leaves k y c)) (same x (contains_at leaves k x at)) (f.each ports wides on k x p at there);
  }
