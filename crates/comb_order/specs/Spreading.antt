-- The spread of a net, as it is made.
use Rattle.std.specs.Prelude.{◌≡◌, ℕ, ◌<◌, ◌≤◌, List, [], ◌∷◌, ◌++◌, length, Contains, Some}
use Rattle.std.specs.declared.cmp.Ordering.{Ordering}
use Rattle.std.specs.Ordering.{nat_cmp}
use Rattle.std.specs.Cmp.Lexicographic.{slice_cmp}
use Rattle.std.specs.BTreeMap.{get}
use Rattle.std.specs.declared.alloc.Global.{Global}
use Rattle.std.specs.declared.vec.Vec.{Vec}
use Rattle.ground_net.specs.declared.net.Net.{Net}
use Rattle.ground_net.specs.declared.net.Leaf.{Leaf}
use Rattle.ground_net.specs.declared.stretch.Span.{Span}
use Rattle.ground_net.specs.Numbers.{listed}
use Rattle.ground_net.specs.Reads.{direct_reads}
use Rattle.comb_order.specs.declared.spread.Spread.{Spread}
use Rattle.comb_order.specs.Spreads.{assignments_among, row_at, told}

-- the stretch of these numbers, and its leaves
abbrev pub spans_of : List ℕ → List Span
spans_of (size ∷ stride ∷ rest) = record { length = size; stride = stride } ∷ spans_of rest
spans_of _ = []

abbrev pub leaves_of : List ℕ → List ℕ
leaves_of (first ∷ reaches) = listed (spans_of reaches) first
leaves_of [] = []

-- the order of keys
abbrev pub key_order : Vec ℕ Global → Vec ℕ Global → Ordering
key_order a b = slice_cmp nat_cmp a.items b.items

-- The vertex stands for the assignments among these.
pub record StandsFor (leaves : List Leaf) (rows : List (List ℕ)) (these : List ℕ) (vertex : ℕ) : Type 0 where
  pub behind : length leaves ≤ vertex
  pub inside : vertex < length rows
  pub is : row_at rows vertex ≡ assignments_among leaves these

-- The rows behind those of the leaves have leaves, and the vertices that are known stand for their stretches.
pub record IsBegun (leaves : List Leaf) (spread : Spread) : Type 0 where
  pub count : length leaves ≤ length spread.rows.items
  pub vertices : (r y : ℕ) → length leaves ≤ r → Contains (row_at spread.rows.items r) y → y < length leaves
  pub known : (key : Vec ℕ Global) (vertex : ℕ) → get key_order spread.known key ≡ Some vertex → StandsFor leaves spread.rows.items (leaves_of key.items) vertex

-- Rows are added, and those that stand stay.
pub record Grows (old new : List (List ℕ)) : Type 0 where
  pub longer : length old ≤ length new
  pub same : (y : ℕ) → y < length old → row_at new y ≡ row_at old y

-- What is added to a row tells the assignments among these.
pub record Adds (leaves : List Leaf) (rows : List (List ℕ)) (these before after : List ℕ) : Type 0 where
  pub more : List ℕ
  pub added : after ≡ before ++ more
  pub inside : (y : ℕ) → Contains more y → y < length rows
  pub tells : told (length leaves) rows more ≡ assignments_among leaves these

pub record Tells (leaves : List Leaf) (these : List ℕ) (old : Spread) (before : List ℕ) (new : Spread) (after : List ℕ) : Type 0 where
  pub begun : IsBegun leaves new
  pub grows : Grows old.rows.items new.rows.items
  pub row : Adds leaves new.rows.items these before after

-- The vertex of a stretch, which is made where there was none.
pub record IsVertex (leaves : List Leaf) (these : List ℕ) (old new : Spread) (vertex : ℕ) : Type 0 where
  pub begun : IsBegun leaves new
  pub grows : Grows old.rows.items new.rows.items
  pub stands : StandsFor leaves new.rows.items these vertex

-- The rows of the first leaves tell what these read, and those of later leaves are empty.
pub record IsToldUpTo (net : Net) (number : ℕ) (spread : Spread) : Type 0 where
  pub begun : IsBegun net.leaves spread
  pub reads : (x : ℕ) → x < number → told (length net.leaves) spread.rows.items (row_at spread.rows.items x) ≡ assignments_among net.leaves (direct_reads net x)
  pub inside : (x y : ℕ) → x < length net.leaves → Contains (row_at spread.rows.items x) y → y < length spread.rows.items
