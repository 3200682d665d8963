-- What is said of some cones is said of the same cones otherwise told.
use Rattle.std.proofs.Common.{ℕ, List, [], ◌∷◌}
use Rattle.std.specs.List.{AllZip}
use Rattle.cone_cutter.specs.Rows.{places_of}
use Rattle.cone_cutter.proofs.Assembly.{counts_lift}
use Rattle.cut_refine.specs.declared.refined.Move.{Move}
use Rattle.cut_refine.specs.Refining.{HasCost, IsGreatest, IsMove, IsBest, Refines, ended, improved, IsRow, IsTable, of_one, of_several, moved}

abbrev pub Into : (C D : ℕ → ℕ → Type 0) → Type 0
Into C D = (k x : ℕ) → C k x → D k x

pub cost_lift : (C D : ℕ → ℕ → Type 0) → Into C D → Into D C → (owners : List ℕ) (p n : ℕ) → HasCost C owners p n → HasCost D owners p n
cost_lift C D f g owners p n h = counts_lift C D f g (places_of owners p) n h

greatest_lift : (C D : ℕ → ℕ → Type 0) → Into C D → Into D C → (workers : ℕ) (owners : List ℕ) (n : ℕ) → IsGreatest C workers owners n → IsGreatest D workers owners n
greatest_lift C D f g workers owners n h = record {
  most = λ p m lt c. h.most p m lt (cost_lift D C g f owners p m c);
  part = h.part;
  within = h.within;
  reached = cost_lift C D f g owners h.part n h.reached;
}

move_lift : (C D : ℕ → ℕ → Type 0) → Into C D → Into D C → (workers : ℕ) (owners : List ℕ) (m : Move) → IsMove C workers owners m → IsMove D workers owners m
move_lift C D f g workers owners m h = record {
  sink = h.sink;
  target = h.target;
  other = h.other;
  greatest = greatest_lift C D f g workers (moved owners m) m.greatest h.greatest;
}

best_lift : (C D : ℕ → ℕ → Type 0) → Into C D → Into D C → (workers : ℕ) (owners : List ℕ) (n : ℕ) (m : Move) → IsBest C workers owners n m → IsBest D workers owners n m
best_lift C D f g workers owners n m h = record {
  is_move = move_lift C D f g workers owners m h.is_move;
  lowers = h.lowers;
  first = λ o is. h.first o (move_lift D C g f workers owners o is);
}

pub refines_lift : (C D : ℕ → ℕ → Type 0) → Into C D → Into D C → (workers : ℕ) (owners last : List ℕ) (least : ℕ) → Refines C workers owners last least → Refines D workers owners last least
refines_lift C D f g workers owners last least (ended n is none) = ended n (greatest_lift C D f g workers owners n is) (λ m move. none m (move_lift D C g f workers owners m move))
refines_lift C D f g workers owners last least (improved n l m is best rest) =
    improved n l m (greatest_lift C D f g workers owners n is) (best_lift C D f g workers owners n m best) (refines_lift C D f g workers (moved owners m) last least rest)

row_lift : (C D : ℕ → ℕ → Type 0) → Into C D → Into D C → (workers : ℕ) (owners : List ℕ) (s : ℕ) (m : Move) → IsRow C workers owners s m → IsRow D workers owners s m
row_lift C D f g workers owners s m h = record {
  of_sink = h.of_sink;
  is_move = move_lift C D f g workers owners m h.is_move;
  first = λ o is. h.first o (move_lift D C g f workers owners o is);
}

zip_lift : {A B : Type 0} (R S : A → B → Type 0) → ((x : A) (y : B) → R x y → S x y) → (xs : List A) (ys : List B) → AllZip R xs ys → AllZip S xs ys
zip_lift R S f [] [] h = h
zip_lift R S f [] (y ∷ ys) h = absurd h
zip_lift R S f (x ∷ xs) [] h = absurd h
zip_lift R S f (x ∷ xs) (y ∷ ys) h = (f x y h.0, zip_lift R S f xs ys h.1)

pub table_lift : (C D : ℕ → ℕ → Type 0) → Into C D → Into D C → (workers : ℕ) (owners : List ℕ) (n : ℕ) (table : List Move) → IsTable C workers owners n table → IsTable D workers owners n table
table_lift C D f g workers owners n table (of_one one none) = of_one one none
table_lift C D f g workers owners n table (of_several several p full rows) =
    of_several several p
    (record { within = full.within; full = cost_lift C D f g owners p n full.full; first = λ q m lt c. full.first q m lt (cost_lift D C g f owners q m c) })
    (zip_lift (IsRow C workers owners) (IsRow D workers owners) (row_lift C D f g workers owners) (places_of owners p) table rows)
