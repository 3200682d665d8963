-- What the measure takes for the declarations of a text, beside what the widths do.
use Rattle.std.proofs.Common.{◌≡◌, ℕ, Bool, true, false, cond, if◌then◌else◌, List, [], ◌∷◌, ◌++◌, map, refl, sym, ap, ◌∙◌, subst, inl, Some, None, Option}
use Rattle.std.specs.Prelude.{nat_eq, is_some, option_map}
use Rattle.std.specs.List.{AllZip, flat_map, list_all}
use Rattle.std.specs.Map.{lookup}
use Rattle.fir_types.specs.declared.fir_type.FirType.{FirType}
use Rattle.fir_types.specs.declared.name.Name.{Name}
use Rattle.fir_types.specs.declared.port.Port.{Port}
use Rattle.fir_types.specs.Bundles.{memory_of}
use Rattle.fir_tree.specs.declared.circuit.Module.{Module}
use Rattle.fir_tree.specs.declared.stmt.Stmt.{Stmt, ind-Stmt}
use Rattle.fir_tree.specs.declared.stmt.Arm.{Arm, fold-Arm}
use Rattle.fir_tree.specs.declared.stmt.Stmt.TheOpen.{Stmt-F, Arm-F}
use Rattle.fir_tree.specs.declared.stmt.Stmt.TheFolds.{map-Stmt, map-Arm, fold-roll-Stmt, fold-roll-Arm}
use Rattle.fir_tree.specs.declared.stmt.Stmt.TheViews.{roll-Stmt, roll-Arm}
use Rattle.fir_tree.specs.declared.part.Part.{Part}
use Rattle.fir_tree.specs.declared.part.Flow.TheVariants.{Duplex}
use Rattle.fir_tree.specs.Parts as parts
use Rattle.fir_meaning.specs.Components.{Declaration, Told, ToldArm, told, of_told, of_told_arm, declared_from, declared_by_port, declarations_of}
use Rattle.type_check.specs.Parts as check
use Rattle.width_rules.specs.Sources as sources
use Rattle.size_check.specs.Weights.{Typing, weight}
use Rattle.size_check.specs.Typings as typings
use Rattle.size_check.specs.Typings.{Known, Notes, typing, known_in, typing_in, named}
use Rattle.width_laws.specs.Declared as declared
use Rattle.width_laws.specs.Declared.{Typed, Declares, declared_by, declared_in, type_of, without_widths}
use Rattle.fitted_laws.specs.Shaped as shaping
use Rattle.fitted_laws.specs.Shaped.{is_shaped, is_shaped_stmt, is_shaped_module}
use Rattle.size_laws.specs.Pieces as pieces
use Rattle.size_laws.specs.Pieces.{Piece, piece, stmt_pieces, arm_pieces, port_piece, pieces_of}
use Rattle.size_laws.proofs.Alike.{Alike, expr_alike, and_left, and_right}

zip_both : {A B : Type 0} (S : A → B → Type 0) (as' bs : List A) (cs ds : List B) → AllZip S as' cs → AllZip S bs ds → AllZip S (as' ++ bs) (cs ++ ds)
zip_both S [] bs [] ds h k = k
zip_both S [] bs (c ∷ cs) ds h k = absurd h
zip_both S (a ∷ as') bs [] ds h k = absurd h
zip_both S (a ∷ as') bs (c ∷ cs) ds h k = (h.0, zip_both S as' bs cs ds h.1 k)

-- What is known on both sides

abbrev SameEntry : ℕ × FirType → ℕ × Part → Type 0
SameEntry e p = (e.0 ≡ p.0) × Alike e.1 p.1.typ

abbrev AreAlike : Known → check.Known → Type 0
AreAlike known parts = AllZip SameEntry known parts

found_alike : (name : ℕ) (known : Known) (ps : check.Known) → AreAlike known ps → is_some (lookup (nat_eq name) known) ≡ is_some (lookup (nat_eq name) ps)
found_alike name [] [] h = refl
found_alike name [] (p ∷ ps) h = absurd h
found_alike name (e ∷ es) [] h = absurd h
found_alike name (e ∷ es) (p ∷ ps) h =
    ap (λ n. is_some (cond (nat_eq name n) (Some e.1) (lookup (nat_eq name) es))) h.0.0 ∙ by (nat_eq name p.0) (found_alike name es ps h.1)
  where
    by : (b : Bool) → is_some (lookup (nat_eq name) es) ≡ is_some (lookup (nat_eq name) ps) → is_some (cond b (Some e.1) (lookup (nat_eq name) es)) ≡ is_some (cond b (Some p.1) (lookup (nat_eq name) ps))
    by true r = refl
    by false r = r

one_more : (known : Known) (ps : check.Known) (name : ℕ) (typ : FirType) (part : Part) → AreAlike known ps → Alike typ part.typ
    → AreAlike (typings.known_with known name typ) (check.known_with ps name (Some part))
one_more known ps name typ part h a = by (is_some (lookup (nat_eq name) known)) (is_some (lookup (nat_eq name) ps)) (found_alike name known ps h)
  where
    by : (b d : Bool) → b ≡ d → AreAlike (if b then known else known ++ (name, typ) ∷ []) (if d then ps else ps ++ (name, part) ∷ [])
    by true true e = h
    by true false e = absurd cc
    by false true e = absurd cc
    by false false e = zip_both SameEntry known ((name, typ) ∷ []) ps ((name, part) ∷ []) h ((refl, a), tt)

-- a component has the same type for both
typing_alike : (known : Known) (ps : check.Known) → AreAlike known ps → (name : ℕ) → Alike (typing known name) (sources.component (map without_widths ps) name).part.typ
typing_alike [] [] h name = inl refl
typing_alike [] (p ∷ ps) h name = absurd h
typing_alike (e ∷ es) [] h name = absurd h
typing_alike (e ∷ es) (p ∷ ps) h name =
    subst (λ n. Alike (typings.type_or_none (cond (nat_eq name n) (Some e.1) (lookup (nat_eq name) es))) (sources.component (map without_widths (p ∷ ps)) name).part.typ) (sym h.0.0)
    (by (nat_eq name p.0) (typing_alike es ps h.1 name))
  where
    by : (b : Bool) → Alike (typing es name) (sources.component (map without_widths ps) name).part.typ
        → Alike (typings.type_or_none (cond b (Some e.1) (lookup (nat_eq name) es)))
        (sources.component_or_none (cond b (Some (without_widths p).1) (lookup (nat_eq name) (map without_widths ps)))).part.typ
    by true r = h.0.1
    by false r = r

-- A part of a body

-- all of these are known as well
abbrev pub with_all : Known → Known → Known
with_all known [] = known
with_all known (e ∷ es) = with_all (typings.known_with known e.0 e.1) es

with_append : (known xs ys : Known) → with_all known (xs ++ ys) ≡ with_all (with_all known xs) ys
with_append known [] ys = refl
with_append known (x ∷ xs) ys = with_append (typings.known_with known x.0 x.1) xs ys

-- what it declares: as it is measured, as it is meant, with the types of the widths, and with those that the measure notes
pub record Views : Type 0 where
  pub pieces : Typing → List Piece
  pub declares : List Declaration
  pub types : Declares
  pub notes : Notes

-- an entry has the name and the type of a declaration
abbrev pub IsTyped : ℕ × FirType → Typed → Type 0
IsTyped e d = (e.0 ≡ d.name) × Alike e.1 d.typ

-- a piece has the type of the entry, where that is the one of its name
abbrev pub IsEntry : Typing → Piece → ℕ × FirType → Type 0
IsEntry types p e = (p.name ≡ e.0) × (types e.0 ≡ e.1 → p.typ ≡ e.1)

abbrev pub IsDeclared : Piece → Declaration → Type 0
IsDeclared p d = (p.name ≡ d.name) × (p.sort ≡ d.sort)

pub record Tells (v : Views) (known : Known) (ps : check.Known) : Type 0 where
  pub entries : Known
  pub notes_is : v.notes known ≡ with_all known entries
  pub after : AreAlike (v.notes known) (v.types ps).known
  pub typed : AllZip IsTyped entries (v.types ps).types
  pub pieces : (types : Typing) → AllZip (IsEntry types) (v.pieces types) entries
  pub declared : (types : Typing) → AllZip IsDeclared (v.pieces types) v.declares

abbrev pub Tells_all : Views → Type 0
Tells_all v = (known : Known) (ps : check.Known) → AreAlike known ps → Tells v known ps

abbrev pub both : Views → Views → Views
both v w = record { pieces = λ types. v.pieces types ++ w.pieces types; declares = v.declares ++ w.declares; types = declared.and_then v.types w.types; notes = λ known. w.notes (v.notes known) }

pub tells_both : (v w : Views) → Tells_all v → Tells_all w → Tells_all (both v w)
tells_both v w h k known ps same =
    let a : Tells v known ps = h known ps same in
    let b : Tells w (v.notes known) (v.types ps).known = k (v.notes known) (v.types ps).known a.after in
    record {
      entries = a.entries ++ b.entries;
      notes_is = b.notes_is ∙ ap (λ z. with_all z b.entries) a.notes_is ∙ sym (with_append known a.entries b.entries);
      after = b.after;
      typed = zip_both IsTyped a.entries b.entries (v.types ps).types (w.types (v.types ps).known).types a.typed b.typed;
      pieces = λ types. zip_both (IsEntry types) (v.pieces types) (w.pieces types) a.entries b.entries (a.pieces types) (b.pieces types);
      declared = λ types. zip_both IsDeclared (v.pieces types) (w.pieces types) v.declares w.declares (a.declared types) (b.declared types);
    }

abbrev pub silent : Views
silent = record { pieces = λ types. []; declares = []; types = declared.nothing; notes = λ known. known }

pub tells_silent : Tells_all silent
tells_silent known ps same = record { entries = []; notes_is = refl; after = same; typed = tt; pieces = λ types. tt; declared = λ types. tt }

-- one declaration
one_tells : (v : Views) (name : ℕ) (known : Known) (ps : check.Known) (typ : FirType) (part : Part) (written : Bool) (p : Typing → Piece) (d : Declaration) → AreAlike known ps → Alike typ part.typ
    → v.notes known ≡ typings.known_with known name typ → v.types ps ≡ declared.one written name part ps → ((types : Typing) → v.pieces types ≡ p types ∷ []) → v.declares ≡ d ∷ []
    → ((types : Typing) → ((p types).name ≡ name) × (types name ≡ typ → (p types).typ ≡ typ)) → ((types : Typing) → IsDeclared (p types) d) → Tells v known ps
one_tells v name known ps typ part written p d same a notes types pieces' declares entry is = record {
  entries = (name, typ) ∷ [];
  notes_is = notes;
  after = subst (λ z. AreAlike z (v.types ps).known) (sym notes) (subst (λ (z : declared.Declared). AreAlike (typings.known_with known name typ) z.known) (sym types) (one_more known ps name typ part same a));
  typed = subst (λ (z : declared.Declared). AllZip IsTyped ((name, typ) ∷ []) z.types) (sym types) ((refl, a), tt);
  pieces = λ t. subst (λ z. AllZip (IsEntry t) z ((name, typ) ∷ [])) (sym (pieces' t)) (entry t, tt);
  declared = λ t. subst (λ z. AllZip IsDeclared z v.declares) (sym (pieces' t)) (subst (AllZip IsDeclared (p t ∷ [])) (sym declares) (is t, tt));
}

module _ (modules : List Module) where
  abbrev told_arm : Arm → ToldArm
  told_arm = fold-Arm Told ToldArm of_told of_told_arm

  abbrev arm_declares : Arm → Declares
  arm_declares = fold-Arm Declares Declares (declared.of_stmt modules) declared.of_arm

  abbrev shaped_arm : Arm → Bool
  shaped_arm = fold-Arm Bool Bool shaping.of_stmt shaping.of_arm

  abbrev notes_of : Stmt → Notes
  notes_of = typings.stmt_notes modules

  abbrev arm_notes : Arm → Notes
  arm_notes = typings.arm_notes modules

  abbrev layer : Stmt-F Stmt Arm → List Stmt → List Stmt → Views
  layer z block behind = record {
    pieces = λ types. pieces.of_stmt types (map-Stmt Stmt Arm (List Piece) (List Piece) (stmt_pieces types) (arm_pieces types) z);
    declares = (of_told (map-Stmt Stmt Arm Told ToldArm told told_arm z)).declares block behind;
    types = declared.of_stmt modules (map-Stmt Stmt Arm Declares Declares (declared_by modules) arm_declares z);
    notes = typings.of_stmt modules (map-Stmt Stmt Arm Notes Notes notes_of arm_notes z);
  }

  abbrev shaped_layer : Stmt-F Stmt Arm → Bool
  shaped_layer z = shaping.of_stmt (map-Stmt Stmt Arm Bool Bool is_shaped_stmt shaped_arm z)

  abbrev stmt_views : Stmt → List Stmt → List Stmt → Views
  stmt_views s block behind = record { pieces = λ types. stmt_pieces types s; declares = (told s).declares block behind; types = declared_by modules s; notes = notes_of s }

  abbrev arm_views : Arm → Views
  arm_views a = record { pieces = λ types. arm_pieces types a; declares = (told_arm a).declared; types = arm_declares a; notes = arm_notes a }

  abbrev StmtTells : Stmt → Type 0
  StmtTells s = is_shaped_stmt s ≡ true → (block behind : List Stmt) → Tells_all (stmt_views s block behind)

  abbrev ArmTells : Arm → Type 0
  ArmTells a = shaped_arm a ≡ true → Tells_all (arm_views a)

  -- the statements of a block
  abbrev pub body_views : List Stmt → List Stmt → Views
  body_views ss block = record {
    pieces = λ types. pieces.all_pieces (map (stmt_pieces types) ss);
    declares = declared_from block (map told ss);
    types = declared.in_turn (map (declared_by modules) ss);
    notes = typings.in_turn (map notes_of ss);
  }

  abbrev all_arms : List Arm → Views
  all_arms arms = record {
    pieces = λ types. pieces.all_pieces (map (arm_pieces types) arms);
    declares = flat_map (λ (arm : ToldArm). arm.declared) (map told_arm arms);
    types = declared.in_turn (map arm_declares arms);
    notes = typings.in_turn (map arm_notes arms);
  }

  block_tells : (es : List ((s : Stmt) × StmtTells s)) → shaping.all_are (map is_shaped_stmt (map (λ e. e.0) es)) ≡ true → (block : List Stmt) → Tells_all (body_views (map (λ e. e.0) es) block)
  block_tells [] shaped block = tells_silent
  block_tells (e ∷ es) shaped block =
      let rest : List Stmt = map (λ e. e.0) es in
      let behind : List Stmt = map (λ t. t.itself) (map told rest) in
      tells_both (stmt_views e.0 block behind) (body_views rest block) (e.1 (and_left _ _ shaped) block behind) (block_tells es (and_right (is_shaped_stmt e.0) _ shaped) block)

  arms_tell : (es : List ((a : Arm) × ArmTells a)) → shaping.all_are (map shaped_arm (map (λ e. e.0) es)) ≡ true → Tells_all (all_arms (map (λ e. e.0) es))
  arms_tell [] shaped = tells_silent
  arms_tell (e ∷ es) shaped = tells_both (arm_views e.0) (all_arms (map (λ e. e.0) es)) (e.1 (and_left _ _ shaped)) (arms_tell es (and_right (shaped_arm e.0) _ shaped))

  rolled : (z : Stmt-F Stmt Arm) (block behind : List Stmt) → stmt_views (roll-Stmt z) block behind ≡ layer z block behind
  rolled z block behind = λ i. record {
    pieces = λ types. fold-roll-Stmt (List Piece) (List Piece) (pieces.of_stmt types) pieces.of_arm z i;
    declares = (fold-roll-Stmt Told ToldArm of_told of_told_arm z i).declares block behind;
    types = fold-roll-Stmt Declares Declares (declared.of_stmt modules) declared.of_arm z i;
    notes = fold-roll-Stmt Notes Notes (typings.of_stmt modules) typings.of_arm z i;
  }

  abbrev arm_layer : Arm-F Stmt Arm → Views
  arm_layer z = record {
    pieces = λ types. pieces.of_arm (map-Arm Stmt Arm (List Piece) (List Piece) (stmt_pieces types) (arm_pieces types) z);
    declares = (of_told_arm (map-Arm Stmt Arm Told ToldArm told told_arm z)).declared;
    types = declared.of_arm (map-Arm Stmt Arm Declares Declares (declared_by modules) arm_declares z);
    notes = typings.of_arm (map-Arm Stmt Arm Notes Notes notes_of arm_notes z);
  }

  arm_rolled : (z : Arm-F Stmt Arm) → arm_views (roll-Arm z) ≡ arm_layer z
  arm_rolled z = λ i. record {
    pieces = λ types. fold-roll-Arm (List Piece) (List Piece) (pieces.of_stmt types) pieces.of_arm z i;
    declares = (fold-roll-Arm Told ToldArm of_told of_told_arm z i).declared;
    types = fold-roll-Arm Declares Declares (declared.of_stmt modules) declared.of_arm z i;
    notes = fold-roll-Arm Notes Notes (typings.of_stmt modules) typings.of_arm z i;
  }

  stmt_at : (z : Stmt-F Stmt Arm) → (shaped_layer z ≡ true → (block behind : List Stmt) → Tells_all (layer z block behind)) → StmtTells (roll-Stmt z)
  stmt_at z h shaped block behind =
      subst Tells_all (sym (rolled z block behind)) (h (sym (fold-roll-Stmt Bool Bool shaping.of_stmt shaping.of_arm z) ∙ shaped) block behind)

  -- the type that the text gives
  written_tells : (z : Stmt-F Stmt Arm) (block behind : List Stmt) (name : Name) (typ : FirType) (d : Declaration) → d.name ≡ name.id
      → typings.of_stmt modules (map-Stmt Stmt Arm Notes Notes notes_of arm_notes z) ≡ (λ known. typings.known_with known name.id typ)
      → (layer z block behind).types ≡ declared.one true name.id (parts.part_of typ Duplex)
      → ((types : Typing) → (layer z block behind).pieces types ≡ piece name.id d.sort typ ∷ []) → (layer z block behind).declares ≡ d ∷ [] → Tells_all (layer z block behind)
  written_tells z block behind name typ d e notes types pieces' declares known ps same =
      one_tells (layer z block behind) name.id known ps typ (parts.part_of typ Duplex) true (λ t. piece name.id d.sort typ) d same (inl refl)
      (ap (λ f. f known) notes) (ap (λ f. f ps) types) pieces' declares (λ t. (refl, λ x. refl)) (λ t. (sym e, refl))

  -- the type that the measure takes
  taken_tells : (z : Stmt-F Stmt Arm) (block behind : List Stmt) (name : ℕ) (d : Declaration) → d.name ≡ name → (known : Known) (ps : check.Known) → AreAlike known ps
      → (typ : FirType) (part : Part) → Alike typ part.typ → (layer z block behind).notes known ≡ typings.known_with known name typ → (layer z block behind).types ps ≡ declared.one false name part ps
      → ((types : Typing) → (layer z block behind).pieces types ≡ piece name d.sort (types name) ∷ []) → (layer z block behind).declares ≡ d ∷ [] → Tells (layer z block behind) known ps
  taken_tells z block behind name d e known ps same typ part a notes types pieces' declares =
      one_tells (layer z block behind) name known ps typ part false (λ t. piece name d.sort (t name)) d same a notes types pieces' declares (λ t. (refl, λ x. x)) (λ t. (sym e, refl))

  instance_type : (o : Option Module) → typings.instance_type o ≡ (parts.part_or_none (option_map parts.instance_part o)).typ
  instance_type (Some target) = refl
  instance_type None = refl

  stmt_case : (y : Stmt-F ((s : Stmt) × StmtTells s) ((a : Arm) × ArmTells a)) → StmtTells (roll-Stmt (map-Stmt _ _ Stmt Arm (λ e. e.0) (λ e. e.0) y))
  stmt_case (Stmt-F.Wire name typ) = stmt_at (Stmt-F.Wire name typ) (λ shaped block behind. written_tells (Stmt-F.Wire name typ) block behind name typ _ refl refl refl (λ t. refl) refl)
  stmt_case (Stmt-F.Reg name typ clock) = stmt_at (Stmt-F.Reg name typ clock) (λ shaped block behind. written_tells (Stmt-F.Reg name typ clock) block behind name typ _ refl refl refl (λ t. refl) refl)
  stmt_case (Stmt-F.RegReset name typ clock reset init) = stmt_at (Stmt-F.RegReset name typ clock reset init)
      (λ shaped block behind. written_tells (Stmt-F.RegReset name typ clock reset init) block behind name typ _ refl refl refl (λ t. refl) refl)
  stmt_case (Stmt-F.Mem memory) = stmt_at (Stmt-F.Mem memory) (λ shaped block behind known ps same.
      taken_tells (Stmt-F.Mem memory) block behind memory.name.id _ refl known ps same (memory_of memory) (parts.source_of (memory_of memory)) (inl refl) refl refl (λ t. refl) refl)
  stmt_case (Stmt-F.Inst name target) = stmt_at (Stmt-F.Inst name target) (λ shaped block behind known ps same.
      taken_tells (Stmt-F.Inst name target) block behind name.id _ refl known ps same (typings.instance_type (named modules target.id)) (parts.part_or_none (parts.instance_in modules target.id))
      (inl (instance_type (named modules target.id))) refl refl (λ t. refl) refl)
  stmt_case (Stmt-F.Node name e) = stmt_at (Stmt-F.Node name e) (λ shaped block behind known ps same.
      taken_tells (Stmt-F.Node name e) block behind name.id _ refl known ps same (weight e (typing known)).typ (parts.source_of (type_of ps e))
      (expr_alike (typing known) (map without_widths ps) (typing_alike known ps same) e shaped) refl refl (λ t. refl) refl)
  stmt_case (Stmt-F.Connect left right) = stmt_at (Stmt-F.Connect left right) (λ shaped block behind. tells_silent)
  stmt_case (Stmt-F.Invalidate target) = stmt_at (Stmt-F.Invalidate target) (λ shaped block behind. tells_silent)
  stmt_case (Stmt-F.Skip place) = stmt_at (Stmt-F.Skip place) (λ shaped block behind. tells_silent)
  stmt_case (Stmt-F.When arms other) = stmt_at (Stmt-F.When (map (λ e. e.0) arms) (map (λ e. e.0) other)) (λ shaped block behind.
      let xs : List Arm = map (λ e. e.0) arms in
      let ys : List Stmt = map (λ e. e.0) other in
      tells_both (all_arms xs) (body_views ys (map (λ t. t.itself) (map told ys))) (arms_tell arms (and_left _ _ shaped))
      (block_tells other (and_right (shaping.all_are (map shaped_arm xs)) _ shaped) (map (λ t. t.itself) (map told ys))))

  arm_case : (y : Arm-F ((s : Stmt) × StmtTells s) ((a : Arm) × ArmTells a)) → ArmTells (roll-Arm (map-Arm _ _ Stmt Arm (λ e. e.0) (λ e. e.0) y))
  arm_case y shaped =
      let ys : List Stmt = map (λ e. e.0) y.body in
      let z : Arm-F Stmt Arm = map-Arm _ _ Stmt Arm (λ e. e.0) (λ e. e.0) y in
      subst Tells_all (sym (arm_rolled z))
      (block_tells y.body (and_right (is_shaped y.condition) _ (sym (fold-roll-Arm Bool Bool shaping.of_stmt shaping.of_arm z) ∙ shaped)) (map (λ t. t.itself) (map told ys)))

  stmt_tells : (s : Stmt) → StmtTells s
  stmt_tells = ind-Stmt StmtTells ArmTells (λ x y is. subst (λ z. StmtTells (roll-Stmt z)) is (stmt_case y)) (λ x y is. subst (λ z. ArmTells (roll-Arm z)) is (arm_case y))

  body_tells : (ss : List Stmt) → list_all is_shaped_stmt ss ≡ true → (block : List Stmt) → Tells_all (body_views ss block)
  body_tells [] shaped block = tells_silent
  body_tells (s ∷ ss) shaped block =
      let behind : List Stmt = map (λ t. t.itself) (map told ss) in
      tells_both (stmt_views s block behind) (body_views ss block) (stmt_tells s (and_left _ _ shaped) block behind) (body_tells ss (and_right (is_shaped_stmt s) _ shaped) block)

  -- Ports

  abbrev ports_views : List Stmt → List Port → Views
  ports_views body ports = record {
    pieces = λ types. map port_piece ports;
    declares = map (declared_by_port body) ports;
    types = declared.in_turn (map declared.of_port ports);
    notes = typings.in_turn (map typings.port_notes ports);
  }

  abbrev port_views : List Stmt → Port → Views
  port_views body port = record { pieces = λ types. port_piece port ∷ []; declares = declared_by_port body port ∷ []; types = declared.of_port port; notes = typings.port_notes port }

  port_tells : (body : List Stmt) (port : Port) → Tells_all (port_views body port)
  port_tells body port known ps same =
      one_tells (port_views body port) port.name.id known ps port.typ (parts.part_of port.typ (parts.port_flow port)) true (λ t. port_piece port) (declared_by_port body port) same (inl refl)
      refl refl (λ t. refl) refl (λ t. (refl, λ x. refl)) (λ t. (refl, refl))

  ports_tell : (body : List Stmt) (ports : List Port) → Tells_all (ports_views body ports)
  ports_tell body [] = tells_silent
  ports_tell body (port ∷ ports) = tells_both (port_views body port) (ports_views body ports) (port_tells body port) (ports_tell body ports)

  -- A module

  abbrev pub module_views : Module → Views
  module_views m = record { pieces = λ types. map port_piece m.ports ++ pieces.all_pieces (map (stmt_pieces types) m.body); declares = declarations_of m; types = declared_in modules m; notes = λ known. typings.in_turn (map notes_of m.body) (typings.in_turn (map typings.port_notes m.ports) known) }

  pub module_tells : (m : Module) → is_shaped_module m ≡ true → Tells (module_views m) [] []
  module_tells m shaped =
      let block : List Stmt = map (λ t. t.itself) (map told m.body) in
      tells_both (ports_views m.body m.ports) (body_views m.body block) (ports_tell m.body m.ports) (body_tells m.body shaped block) [] [] tt
