-- The components of a circuit that the checks let pass are those that were measured.
use Rattle.std.proofs.Common.{◌≡◌, ℕ, zero, suc, Bool, true, List, [], ◌∷◌, ◌++◌, map, length, drop, refl, sym, ap, ap₂, ◌∙◌, subst, arith, slice_get, Some, None}
use Rattle.std.specs.Prelude.{Contains, nat_eq, zip}
use Rattle.std.specs.List.{AllZip, AllByRecursion, flat_map, list_all}
use Rattle.std.specs.Map.{lookup}
use Rattle.place_text.specs.First.{HasNone}
use Rattle.fir_types.specs.declared.fir_type.FirType.{FirType}
use Rattle.fir_types.specs.declared.leaf.TypeLeaf.{TypeLeaf}
use Rattle.fir_types.specs.declared.leaf.PathStep.{PathStep}
use Rattle.fir_types.specs.Leaves.{leaves, way_of}
use Rattle.fir_types.specs.Equivalence.{Equivalent}
use Rattle.fir_types.proofs.Ways.{same_ways as same_ways_of}
use Rattle.prim_ops.specs.declared.widths.Width.{Width}
use Rattle.fir_tree.specs.declared.circuit.Circuit.{Circuit}
use Rattle.fir_tree.specs.declared.circuit.Module.{Module}
use Rattle.fir_tree.specs.declared.scope.Checked.{Checked}
use Rattle.fir_tree.specs.declared.scope.Fitted.{Fitted}
use Rattle.fir_tree.specs.declared.stmt.Stmt.{Stmt}
use Rattle.type_filling.specs.Filling.{filled}
use Rattle.fir_names.specs.Faults.{IsFault}
use Rattle.fir_names.proofs.Graphs.{some_same}
use Rattle.fir_meaning.specs.Components.{Declaration, Component, TypedModule, declarations_of, with_types}
use Rattle.width_fit.specs.Fitting.{IsFitted}
use Rattle.width_laws.specs.Declared.{Typed, IsFilled, declared_in, declared_of}
use Rattle.size_check.specs.Weights.{Typing}
use Rattle.size_check.specs.Typings.{Known, known_with, typing, typing_in, type_or_none}
use Rattle.fitted_laws.specs.Accepted.{IsAccepted}
use Rattle.fitted_laws.specs.Shaped.{is_shaped_module}
use Rattle.size_laws.specs.Pieces.{Piece, ways, all_pieces, stmt_pieces, port_piece, pieces_of, IsMeasured, AreMeasured}
use Rattle.size_laws.proofs.Alike.{same_ways, and_left, and_right}
use Rattle.size_laws.proofs.Looking.{kept_found, new_found, still_none}
use Rattle.size_laws.proofs.Walking.{with_all, IsTyped, IsEntry, IsDeclared, Tells, module_views, module_tells}

none_some : {A : Type 0} {x : A} → None ≡ Some x → ⊥
none_some e = cc

-- Lists side by side

zip_on : {A B C : Type 0} (R : A → B → Type 0) (S : B → C → Type 0) (T : A → C → Type 0) → ((a : A) (b : B) (c : C) → R a b → S b c → T a c)
    → (as' : List A) (bs : List B) (cs : List C) → AllZip R as' bs → AllZip S bs cs → AllZip T as' cs
zip_on R S T f [] [] [] h k = tt
zip_on R S T f [] [] (c ∷ cs) h k = absurd k
zip_on R S T f [] (b ∷ bs) cs h k = absurd h
zip_on R S T f (a ∷ as') [] cs h k = absurd h
zip_on R S T f (a ∷ as') (b ∷ bs) [] h k = absurd k
zip_on R S T f (a ∷ as') (b ∷ bs) (c ∷ cs) h k = (f a b c h.0 k.0, zip_on R S T f as' bs cs h.1 k.1)

zip_long : {A B : Type 0} (R : A → B → Type 0) (xs : List A) (ys : List B) → AllZip R xs ys → length xs ≡ length ys
zip_long R [] [] h = refl
zip_long R [] (y ∷ ys) h = absurd h
zip_long R (x ∷ xs) [] h = absurd h
zip_long R (x ∷ xs) (y ∷ ys) h = ap suc (zip_long R xs ys h.1)

-- a list beside two that stand one behind the other
record IsSplit {A B : Type 0} (R : A → B → Type 0) (n : ℕ) (xs ys : List A) (zs : List B) : Type 0 where
  pub front : List B
  pub first : AllZip R xs front
  pub rest : AllZip R ys (drop n zs)
  pub counted : length front ≡ n
  pub zs_is : zs ≡ front ++ drop n zs

split : {A B : Type 0} (R : A → B → Type 0) (n : ℕ) (xs ys : List A) (zs : List B) → length xs ≡ n → AllZip R (xs ++ ys) zs → IsSplit R n xs ys zs
split R zero [] ys zs e h = record { front = []; first = tt; rest = h; counted = refl; zs_is = refl }
split R zero (x ∷ xs) ys zs e h = absurd (omega (arith, e))
split R (suc n) [] ys zs e h = absurd (omega (arith, e))
split R (suc n) (x ∷ xs) ys [] e h = absurd h
split R (suc n) (x ∷ xs) ys (z ∷ zs) e h =
    let r = split R n xs ys zs (omega (arith, e)) h.1 in
    record { front = z ∷ r.front; first = (h.0, r.first); rest = r.rest; counted = ap suc r.counted; zs_is = ap (λ l. z ∷ l) r.zs_is }

zip_front : {A B : Type 0} (xs : List A) (front rest : List B) → length front ≡ length xs → zip xs (front ++ rest) ≡ zip xs front
zip_front [] [] rest e = refl
zip_front [] (z ∷ front) rest e = absurd (omega (arith, e))
zip_front (x ∷ xs) [] rest e = absurd (omega (arith, e))
zip_front (x ∷ xs) (z ∷ front) rest e = ap (λ l. (x, z) ∷ l) (zip_front xs front rest (omega (arith, e)))

-- Names that stand once

abbrev Once : List ℕ → Type 0
Once names = (j k x : ℕ) → slice_get names j ≡ Some x → slice_get names k ≡ Some x → j ≡ k

abbrev names_of : Known → List ℕ
names_of es = map (λ e. e.0) es

got : {A : Type 0} (f : A → ℕ) (xs : List A) (j : ℕ) (y : ℕ) → slice_get (map f xs) j ≡ Some y → (x : A) × (slice_get xs j ≡ Some x) × (f x ≡ y)
got f [] j y e = absurd (none_some e)
got f (x ∷ xs) zero y e = (x, refl, some_same e)
got f (x ∷ xs) (suc j) y e = got f xs j y e

got_name : (es : Known) (j : ℕ) (e : ℕ × FirType) → slice_get es j ≡ Some e → slice_get (names_of es) j ≡ Some e.0
got_name [] j e h = absurd (none_some h)
got_name (x ∷ es) zero e h = ap (λ (z : ℕ × FirType). Some z.0) (some_same h)
got_name (x ∷ es) (suc j) e h = got_name es j e h

kept_all : (es known : Known) (x : ℕ) (typ : FirType) → lookup (nat_eq x) known ≡ Some typ → lookup (nat_eq x) (with_all known es) ≡ Some typ
kept_all [] known x typ h = h
kept_all (e ∷ es) known x typ h = kept_all es (known_with known e.0 e.1) x typ (kept_found known e.0 x e.1 typ h)

abbrev IsFound : Known → ℕ × FirType → Type 0
IsFound known e = lookup (nat_eq e.0) known ≡ Some e.1

all_found : (es known : Known) → Once (names_of es) → ((j x : ℕ) → slice_get (names_of es) j ≡ Some x → lookup (nat_eq x) known ≡ None) → AllByRecursion (IsFound (with_all known es)) es
all_found [] known once absent = tt
all_found (e ∷ es) known once absent = (
  kept_all es (known_with known e.0 e.1) e.0 e.1 (new_found known e.0 e.1 (absent 0 e.0 refl)),
  all_found es (known_with known e.0 e.1) (λ j k x a b. less j k (once (suc j) (suc k) x a b))
      (λ j x a. still_none known e.0 x e.1 (λ is. never j (once (suc j) 0 x a (ap Some (sym is)))) (absent (suc j) x a)),
)
  where
    less : (j k : ℕ) → suc j ≡ suc k → j ≡ k
    less j k h = omega (arith, h)

    never : (j : ℕ) → suc j ≡ 0 → ⊥
    never j h = omega (arith, h)

-- A module

-- the names of the entries are those of the declarations
same_names : (types : Typing) (ps : List Piece) (es : Known) (ds : List Declaration) → AllZip (IsEntry types) ps es → AllZip IsDeclared ps ds → names_of es ≡ map (λ d. d.name) ds
same_names types [] [] [] h k = refl
same_names types [] [] (d ∷ ds) h k = absurd k
same_names types [] (e ∷ es) ds h k = absurd h
same_names types (p ∷ ps) [] ds h k = absurd h
same_names types (p ∷ ps) (e ∷ es) [] h k = absurd k
same_names types (p ∷ ps) (e ∷ es) (d ∷ ds) h k = ap₂ (λ x xs. x ∷ xs) (sym h.0.0 ∙ k.0.0) (same_names types ps es ds h.1 k.1)

abbrev HasType : Piece → ℕ × FirType → Type 0
HasType p e = p.typ ≡ e.1

have_types : (types : Typing) (known : Known) (ps : List Piece) (es : Known) → ((name : ℕ) → types name ≡ typing known name) → AllZip (IsEntry types) ps es → AllByRecursion (IsFound known) es → AllZip HasType ps es
have_types types known [] [] same h k = tt
have_types types known [] (e ∷ es) same h k = absurd h
have_types types known (p ∷ ps) [] same h k = absurd h
have_types types known (p ∷ ps) (e ∷ es) same h k = (h.0.1 (same e.0 ∙ ap type_or_none k.0), have_types types known ps es same h.1 k.1)

paths_of : (ls : List TypeLeaf) → map (λ (l : TypeLeaf). l.path) ls ≡ map (λ (w : List PathStep × Bool). w.0) (map way_of ls)
paths_of [] = refl
paths_of (l ∷ ls) = ap (λ r. l.path ∷ r) (paths_of ls)

equivalent_ways : {t u : FirType} → Equivalent t u → ways t ≡ ways u
equivalent_ways {t} {u} q = paths_of (leaves t) ∙ ap (map (λ (w : List PathStep × Bool). w.0)) (same_ways_of q) ∙ sym (paths_of (leaves u))

abbrev Wayed : Piece → FirType → Type 0
Wayed p t = ways p.typ ≡ ways t

abbrev component_of : Declaration × FirType → Component
component_of both = record { declaration = both.0; typ = both.1 }

measured_by : (ps : List Piece) (ds : List Declaration) (ts : List FirType) → AllZip Wayed ps ts → AllZip IsDeclared ps ds → AllZip IsMeasured ps (map component_of (zip ds ts))
measured_by [] [] [] h k = tt
measured_by [] [] (t ∷ ts) h k = absurd h
measured_by [] (d ∷ ds) ts h k = absurd k
measured_by (p ∷ ps) [] ts h k = absurd k
measured_by (p ∷ ps) (d ∷ ds) [] h k = absurd h
measured_by (p ∷ ps) (d ∷ ds) (t ∷ ts) h k = (record { name = k.0.0; sort = k.0.1; ways = h.0 }, measured_by ps ds ts h.1 k.1)

abbrev pub AreEquivalent : Type 0
AreEquivalent = (typ : FirType) (widths : List Width) → Equivalent typ (filled typ widths)

-- the names of a module's declarations differ
abbrev pub AreOnce : Circuit → Type 0
AreOnce circuit = (holder : Module) → Contains circuit.modules holder → (j k : ℕ) (d e : Declaration) → slice_get (declarations_of holder) j ≡ Some d → slice_get (declarations_of holder) k ≡ Some e → d.name ≡ e.name → j ≡ k

joined_pieces : (f : Stmt → List Piece) (ss : List Stmt) → all_pieces (map f ss) ≡ flat_map f ss
joined_pieces f [] = refl
joined_pieces f (s ∷ ss) = ap (λ l. f s ++ l) (joined_pieces f ss)

module_measured : AreEquivalent → (modules : List Module) (holder : Module) → is_shaped_module holder ≡ true → Once (map (λ (d : Declaration). d.name) (declarations_of holder))
    → (ts : List FirType) → AllZip (λ (d : Typed) (t : FirType). IsFilled d t) (declared_in modules holder []).types ts
    → AllZip IsMeasured (pieces_of modules holder) (map component_of (zip (declarations_of holder) ts))
module_measured equivalent modules holder shaped once ts filled_to =
    let t : Tells (module_views modules holder) [] [] = module_tells modules holder shaped in
    let types : Typing = typing_in modules holder in
    let ps : List Piece = pieces_of modules holder in
    let same : map port_piece holder.ports ++ all_pieces (map (stmt_pieces types) holder.body) ≡ ps = ap (λ l. map port_piece holder.ports ++ l) (joined_pieces (stmt_pieces types) holder.body) in
    let entered : AllZip (IsEntry types) ps t.entries = subst (λ l. AllZip (IsEntry types) l t.entries) same (t.pieces types) in
    let declared : AllZip IsDeclared ps (declarations_of holder) = subst (λ l. AllZip IsDeclared l (declarations_of holder)) same (t.declared types) in
    let found : AllByRecursion (IsFound (with_all [] t.entries)) t.entries
    = all_found t.entries [] (subst Once (sym (same_names types ps t.entries (declarations_of holder) entered declared)) once) (λ j x a. refl) in
    let typed : AllZip HasType ps t.entries = have_types types (with_all [] t.entries) ps t.entries (λ name. ap (λ known. typing known name) t.notes_is) entered found in
    let wayed : AllZip (λ (p : Piece) (d : Typed). ways p.typ ≡ ways d.typ) ps (declared_in modules holder []).types
    = zip_on HasType IsTyped (λ (p : Piece) (d : Typed). ways p.typ ≡ ways d.typ) (λ p e d h k. ap ways h ∙ same_ways k.1) ps t.entries (declared_in modules holder []).types typed t.typed in
    measured_by ps (declarations_of holder) ts
    (zip_on (λ (p : Piece) (d : Typed). ways p.typ ≡ ways d.typ) (λ (d : Typed) (t : FirType). IsFilled d t) Wayed
    (λ p d t h k. h ∙ equivalent_ways (equivalent d.typ k.widths) ∙ ap ways (sym k.filled_is)) ps (declared_in modules holder []).types ts wayed filled_to)
    declared

-- All modules

record IsTypedAt (modules : List Module) (holder : Module) (m : TypedModule) : Type 0 where
  pub types : List FirType
  pub is : m.components ≡ map component_of (zip (declarations_of holder) types)
  pub filled_to : AllZip (λ (d : Typed) (t : FirType). IsFilled d t) (declared_in modules holder []).types types

counted_types : (modules : List Module) (m : Module) → is_shaped_module m ≡ true → length (declared_in modules m []).types ≡ length (declarations_of m)
counted_types modules m shaped =
    let t : Tells (module_views modules m) [] [] = module_tells modules m shaped in
    let types : Typing = typing_in modules m in
    let views = module_views modules m in
    sym (zip_long IsTyped t.entries (declared_in modules m []).types t.typed) ∙ sym (zip_long (IsEntry types) (views.pieces types) t.entries (t.pieces types))
    ∙ zip_long IsDeclared (views.pieces types) (declarations_of m) (t.declared types)

typed_at : (modules rest : List Module) (types : List FirType) → list_all is_shaped_module rest ≡ true → AllZip (λ (d : Typed) (t : FirType). IsFilled d t) (flat_map (λ m. (declared_in modules m []).types) rest) types
    → (k : ℕ) (holder : Module) (m : TypedModule) → slice_get rest k ≡ Some holder → slice_get (with_types rest types) k ≡ Some m → IsTypedAt modules holder m
typed_at modules [] types shaped h k holder m e f = absurd (none_some e)
typed_at modules (x ∷ rest) types shaped h zero holder m e f =
    let s = split (λ (d : Typed) (t : FirType). IsFilled d t) (length (declarations_of x)) (declared_in modules x []).types (flat_map (λ m. (declared_in modules m []).types) rest) types (counted_types modules x (and_left _ _ shaped)) h in
    subst (λ y. IsTypedAt modules y m) (some_same e) (record {
      types = s.front;
      is = ap (λ (y : TypedModule). y.components) (sym (some_same f)) ∙ ap (λ l. map component_of (zip (declarations_of x) l)) s.zs_is
          ∙ ap (map component_of) (zip_front (declarations_of x) s.front (drop (length (declarations_of x)) types) s.counted);
      filled_to = s.first;
    })
typed_at modules (x ∷ rest) types shaped h (suc k) holder m e f =
    let s = split (λ (d : Typed) (t : FirType). IsFilled d t) (length (declarations_of x)) (declared_in modules x []).types (flat_map (λ m. (declared_in modules m []).types) rest) types (counted_types modules x (and_left _ _ shaped)) h in
    typed_at modules rest (drop (length (declarations_of x)) types) (and_right (is_shaped_module x) _ shaped) s.rest k holder m e f

shaped_at : (ms : List Module) (k : ℕ) (m : Module) → list_all is_shaped_module ms ≡ true → slice_get ms k ≡ Some m → is_shaped_module m ≡ true
shaped_at [] k m h e = absurd (none_some e)
shaped_at (x ∷ ms) zero m h e = subst (λ y. is_shaped_module y ≡ true) (some_same e) (and_left _ _ h)
shaped_at (x ∷ ms) (suc k) m h e = shaped_at ms k m (and_right (is_shaped_module x) _ h) e

contained : (ms : List Module) (k : ℕ) (m : Module) → slice_get ms k ≡ Some m → Contains ms m
contained [] k m e = absurd (none_some e)
contained (x ∷ ms) zero m e = (0, omega arith, some_same e)
contained (x ∷ ms) (suc k) m e = let c = contained ms k m e in (suc c.0, omega (arith, c.1), c.2)

-- the declared types with widths are the fitted ones
abbrev pub AreFilled : Type 0
AreFilled = (checked : Checked) (widths : List Width) (fitted : Fitted) → IsFitted checked widths fitted → AllZip (λ (d : Typed) (typ : FirType). IsFilled d typ) (declared_of checked.resolved) fitted.declared

pub are_measured : AreEquivalent → AreFilled → ((circuit : Circuit) → HasNone (IsFault circuit) → AreOnce circuit) → (fitted : Fitted) → IsAccepted fitted → AreMeasured fitted
are_measured equivalent fills once fitted accepted k holder m here number =
    let circuit = fitted.checked.resolved in
    let t : IsTypedAt circuit.modules holder m = typed_at circuit.modules circuit.modules fitted.declared accepted.shaped (fills fitted.checked accepted.fit.widths fitted accepted.fit.fitted_is) k holder m here number in
    let names : Once (map (λ (d : Declaration). d.name) (declarations_of holder)) = λ i j x a b.
    let d = got (λ (d : Declaration). d.name) (declarations_of holder) i x a in
    let e = got (λ (d : Declaration). d.name) (declarations_of holder) j x b in
    once circuit accepted.names holder (contained circuit.modules k holder here) i j d.0 e.0 d.1 e.1 (d.2 ∙ sym e.2) in
    subst (AllZip IsMeasured (pieces_of circuit.modules holder)) (sym t.is)
    (module_measured equivalent circuit.modules holder (shaped_at circuit.modules k holder accepted.shaped here) names t.types t.filled_to)
