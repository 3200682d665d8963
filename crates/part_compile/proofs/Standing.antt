-- In which slots stands what later pieces need.
use Rattle.std.proofs.Common.{◌≡◌, ℕ, zero, suc, ◌<◌, true, List, [], ◌∷◌, ◌++◌, flat_map, length, get_or, take, slice_get, Some, Contains, refl, sym, subst, ap, ◌∙◌, arith, ⊎_elim, append_assoc, append-nil}
use Rattle.std.proofs.lemmas.List.Elements.{Contains-append_left, Contains-append_right, Contains-append_cases, Contains-push_cases}
use Rattle.ground_net.specs.declared.net.Net.{Net}
use Rattle.ground_net.specs.declared.net.CutPart.{CutPart}
use Rattle.ground_net.specs.Reads.{direct_reads}
use Rattle.flat_code.specs.declared.code.Code.{Code}
use Rattle.flat_code.specs.Fine.{Known, among, slots_of}
use Rattle.code_place.specs.Live.{is_read as is_read_or_shown}
use Rattle.part_compile.specs.SlotBounds.{sinks_read}
use Rattle.code_draft.specs.Segments.{is_read}
use Rattle.code_draft.specs.Pieces.{Piece, Follow, instrs_of, StandsIn}
use Rattle.part_compile.specs.Pieces.{IsAssigning, IsTelling}
use Rattle.part_compile.proofs.Staying.{read_cases, read_behind}

-- Lists

pub contains_first : {A : Type 0} (x : A) (xs : List A) → Contains (x ∷ xs) x
contains_first x xs = (0, omega arith, refl)

pub contains_later : {A : Type 0} (y : A) (xs : List A) (x : A) → Contains xs x → Contains (y ∷ xs) x
contains_later y xs x h = (suc h.0, omega (arith, h.1), h.2)

flat_at : {A B : Type 0} (f : A → List B) (xs : List A) (x : A) (y : B) (k : ℕ) → k < length xs → get_or xs k x ≡ x → Contains (f x) y → Contains (flat_map f xs) y
flat_at f [] x y k lt e d = absurd (omega (arith, lt))
flat_at f (z ∷ xs) x y zero lt e d = Contains-append_left (f z) (flat_map f xs) y (subst (λ w. Contains (f w) y) (sym e) d)
flat_at f (z ∷ xs) x y (suc k) lt e d = Contains-append_right (f z) (flat_map f xs) y (flat_at f xs x y k (omega (arith, lt)) e d)

pub contains_flat : {A B : Type 0} (f : A → List B) (xs : List A) (x : A) (y : B) → Contains xs x → Contains (f x) y → Contains (flat_map f xs) y
contains_flat f xs x y c d = flat_at f xs x y c.0 c.1 c.2 d

-- more is read, of more leaves
stands_so : (locations : ℕ → List ℕ) (earlier further read all : List ℕ) (k : ℕ) → ((x : ℕ) → Contains earlier x → Contains further x) → ((x : ℕ) → Contains read x → Contains all x)
    → StandsIn locations earlier read k → StandsIn locations further all k
stands_so locations earlier further read all k f g s = record { leaf = s.leaf; before = f s.leaf s.before; wanted = g s.leaf s.wanted; there = s.there }

-- whether a slot is read by these pieces or shown
abbrev pub is_later : Code → List Piece → Known
is_later code pieces = is_read_or_shown code.ports code.wides code.shown (instrs_of pieces)

-- what the sinks and these assignments read
abbrev pub read_by : Net → List ℕ → CutPart → List ℕ → List ℕ
read_by net watch part rest = sinks_read net watch part ++ flat_map (direct_reads net) rest

-- read by the first piece, or later
first_or_later : (code : Code) (p : Piece) (further : List Piece) (k : ℕ) → is_later code (p ∷ further) k ≡ true → is_read code.ports code.wides (is_later code further) p.instrs k ≡ true
first_or_later code p further k e = sym (read_behind code.ports code.wides code.shown p.instrs (instrs_of further) k) ∙ e

-- Assignments that have no code yet in the order, and others before them that have.
pub record Rest (net : Net) (part : CutPart) (code : Code) (locations : ℕ → List ℕ) (telling : List Piece) (rest : List ℕ) (pieces : List Piece) (done : List ℕ) (from : ℕ) : Type 0 where
  pub follow : Follow from (pieces ++ telling)
  pub counted : length pieces ≡ length rest
  pub each : (k x : ℕ) (p : Piece) → slice_get rest k ≡ Some x → slice_get pieces k ≡ Some p → IsAssigning net code locations (done ++ take k rest) x p
  pub all : done ++ rest ≡ part.assignments

module _ (net : Net) (part : CutPart) (code : Code) (locations : ℕ → List ℕ) (telling : List Piece) (x : ℕ) (rest : List ℕ) (p : Piece) (pieces : List Piece) (done : List ℕ) (from : ℕ)
    (r : Rest net part code locations telling (x ∷ rest) (p ∷ pieces) done from) where
  pub first_of_rest : IsAssigning net code locations done x p
  first_of_rest = subst (λ earlier. IsAssigning net code locations earlier x p) (append-nil done) (r.each 0 x p refl refl)

  pub later_rest : Rest net part code locations telling rest pieces (done ++ x ∷ []) p.last
  later_rest =
      let counted = r.counted in
      record {
        follow = r.follow.2;
        counted = omega (arith, counted);
        each = λ k y q at there. subst (λ earlier. IsAssigning net code locations earlier y q) (sym (append_assoc done (x ∷ []) (take k rest))) (r.each (suc k) y q at there);
        all = append_assoc done (x ∷ []) rest ∙ r.all;
      }

module _ (net : Net) (watch : List ℕ) (part : CutPart) (code : Code) (locations : ℕ → List ℕ) (telling : List Piece) (told : (p : Piece) → Contains telling p → IsTelling net watch part code locations p)
    (shown : (k : ℕ) → among (slots_of code.shown) k ≡ true → StandsIn locations part.assignments (sinks_read net watch part) k) where
  -- What the code of sinks reads, and what is shown

  pub told_stands : (pieces : List Piece) (from k : ℕ) → Follow from pieces → ((p : Piece) → Contains pieces p → Contains telling p) → k < from → is_later code pieces k ≡ true
      → StandsIn locations part.assignments (sinks_read net watch part) k
  told_stands [] from k follow these lt e = shown k e
  told_stands (p ∷ further) from k follow these lt e =
      let it = told p (these p (contains_first p further)) in
      let first = follow.0 in
      let last = follow.1 in
      ⊎_elim
      (λ o. it.piece.outside k o)
      (λ l. told_stands further p.last k follow.2 (λ q c. these q (contains_later p further q c)) (omega (arith, lt, first, last)) l)
      (read_cases code.ports code.wides p.first it.piece.outer (is_later code further) p.instrs k it.piece.stretch.reads (omega (arith, lt, first)) (first_or_later code p further k e))

  -- of an assignment it is read by the first of them, or by the others
  read_first : (x : ℕ) (rest : List ℕ) (y : ℕ) → Contains (direct_reads net x) y → Contains (read_by net watch part (x ∷ rest)) y
  read_first x rest y c =
      Contains-append_right (sinks_read net watch part) (flat_map (direct_reads net) (x ∷ rest)) y (Contains-append_left (direct_reads net x) (flat_map (direct_reads net) rest) y c)

  read_later : (x : ℕ) (rest : List ℕ) (y : ℕ) → Contains (read_by net watch part rest) y → Contains (read_by net watch part (x ∷ rest)) y
  read_later x rest y c = ⊎_elim
      (λ l. Contains-append_left (sinks_read net watch part) (flat_map (direct_reads net) (x ∷ rest)) y l)
      (λ r. Contains-append_right (sinks_read net watch part) (flat_map (direct_reads net) (x ∷ rest)) y (Contains-append_right (direct_reads net x) (flat_map (direct_reads net) rest) y r))
      (Contains-append_cases (sinks_read net watch part) (flat_map (direct_reads net) rest) y c)

  -- What is needed of the slots before: they are those of assignments that have their code, and that the sinks or the others read.
  pub stands : (rest : List ℕ) (pieces : List Piece) (done : List ℕ) (from k : ℕ) → Rest net part code locations telling rest pieces done from → k < from → is_later code (pieces ++ telling) k ≡ true
      → StandsIn locations done (read_by net watch part rest) k
  stands [] [] done from k r lt e =
      stands_so locations part.assignments done (sinks_read net watch part) (read_by net watch part []) k
      (λ x c. subst (λ xs. Contains xs x) (sym (sym (append-nil done) ∙ r.all)) c)
      (λ x c. Contains-append_left (sinks_read net watch part) [] x c)
      (told_stands telling from k r.follow (λ p c. c) lt e)
  stands [] (p ∷ pieces) done from k r lt e = let counted = r.counted in absurd (omega (arith, counted))
  stands (x ∷ rest) [] done from k r lt e = let counted = r.counted in absurd (omega (arith, counted))
  stands (x ∷ rest) (p ∷ pieces) done from k r lt e =
      let it = first_of_rest net part code locations telling x rest p pieces done from r in
      let first = r.follow.0 in
      let last = r.follow.1 in
      let outside : among it.outer k ≡ true → StandsIn locations done (read_by net watch part (x ∷ rest)) k =
      λ o. stands_so locations done done (direct_reads net x) (read_by net watch part (x ∷ rest)) k (λ y c. c) (read_first x rest) (it.outside k o)
      in
      ⊎_elim outside
      (λ l.
      let s = stands rest pieces (done ++ x ∷ []) p.last k (later_rest net part code locations telling x rest p pieces done from r) (omega (arith, lt, first, last)) l in
      ⊎_elim
      (λ c. record { leaf = s.leaf; before = c; wanted = read_later x rest s.leaf s.wanted; there = s.there })
      (λ same. ⊎_elim (λ own. let mine = own.0 in absurd (omega (arith, lt, first, mine))) outside (it.there k (ap (λ y. among (locations y) k) same ∙ s.there)))
      (Contains-push_cases done x s.leaf s.before))
      (read_cases code.ports code.wides p.first it.outer (is_later code (pieces ++ telling)) p.instrs k it.stretch.reads (omega (arith, lt, first)) (first_or_later code p (pieces ++ telling) k e))
