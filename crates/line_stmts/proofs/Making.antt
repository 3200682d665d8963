-- What a walk makes of lines, one behind the other.
use Rattle.std.proofs.Common.{◌≡◌, ℕ, ◌+◌, List, [], ◌∷◌, ◌++◌, map, length, Option, Some, None, refl, sym, ap, ◌∙◌, subst, append_assoc, arith}
use Rattle.std.proofs.lemmas.Grind.{common_steps}
use Rattle.std.proofs.lemmas.List.{length-map}
use Rattle.place_text.specs.declared.place.Place.{Place}
use Rattle.fir_tree.specs.declared.expr.Expr.{Expr}
use Rattle.fir_tree.specs.declared.stmt.Stmt.{Stmt}
use Rattle.fir_tree.specs.declared.stmt.Stmt.TheVariants as stmt
use Rattle.fir_tree.specs.declared.stmt.Arm.{Arm}
use Rattle.fir_tree.specs.declared.print.Piece.{Piece}
use Rattle.fir_tree.specs.declared.print.PrintItem.{PrintItem}
use Rattle.fir_tree.specs.Numbered.{IsDistinct}
use Rattle.item_lines.specs.declared.line.Line.{Line}
use Rattle.item_lines.specs.declared.line.Line.TheVariants as entry
use Rattle.item_lines.specs.declared.line.LineArm.{LineArm}
use Rattle.item_lines.specs.Items.{Before, Item, Stands, in_order, in_block, joined, stmts_of, the_item, item_stmts, prints_from}
use Rattle.item_lines.specs.Naming.{IsMade}
use Rattle.line_stmts.specs.declared.maker.Maker.{Maker}
use Rattle.item_lines.specs.Lines.{arm_of}
use Rattle.item_lines.proofs.Lines.{plain_stands, branch_stands, arm_stands, print_stands, stop_stands}
use Rattle.line_stmts.specs.Walks.{Holds, Makes}

-- the same as another that stands for the same

as_stands : {T : Type 0} {f g : Stands T} {a b : Maker} {x : T} → ((before : Before) → f before ≡ g before) → Makes g a b x → Makes f a b x
as_stands {T} {f} {g} {a} {b} same h = record {
  is = λ earlier m before held. h.is earlier m before held ∙ ap (λ (p : T × Before). p.0) (sym (same before));
  holds = λ earlier m before held. subst (λ (p : T × Before). Holds earlier m b p.1) (sym (same before)) (h.holds earlier m before held);
}

-- one more behind others

module _ {T : Type 0} where
  in_order_more : (fs : List (Stands T)) (f : Stands T) (b : Before) → in_order (fs ++ f ∷ []) b ≡ ((in_order fs b).0 ++ (f (in_order fs b).1).0 ∷ [], (f (in_order fs b).1).1)
  in_order_more [] f b = refl
  in_order_more (g ∷ fs) f b = ap (λ (p : List T × Before). ((g b).0 ∷ p.0, p.1)) (in_order_more fs f (g b).1)

  pub makes_none : (a : Maker) → Makes (in_order {T = T} []) a a []
  makes_none a = record { is = λ earlier m b held. refl; holds = λ earlier m b held. held }

  more_made : (fs : List (Stands T)) (f : Stands T) {a b c : Maker} {xs : List T} {y : T} → Makes (in_order fs) a b xs → Makes f b c y → Makes (in_order (fs ++ f ∷ [])) a c (xs ++ y ∷ [])
  more_made fs f {a} {b} {c} {xs} {y} h k = as_stands (in_order_more fs f) (record {
    is = λ earlier m before held. ap (λ (zs : List T). zs ++ y ∷ []) (h.is earlier m before held)
        ∙ ap (λ (z : T). (in_order fs before).0 ++ z ∷ []) (k.is earlier m (in_order fs before).1 (h.holds earlier m before held));
    holds = λ earlier m before held. k.holds earlier m (in_order fs before).1 (h.holds earlier m before held);
  })

map_more : {X Y : Type 0} (f : X → Y) (xs : List X) (x : X) → map f (xs ++ x ∷ []) ≡ map f xs ++ f x ∷ []
map_more f [] x = refl
map_more f (y ∷ ys) x = ap (λ zs. f y ∷ zs) (map_more f ys x)

joined_more : (xss : List (List Stmt)) (xs : List Stmt) → joined (xss ++ xs ∷ []) ≡ joined xss ++ xs
joined_more [] xs = grind (arith, common_steps)
joined_more (ys ∷ xss) xs = ap (λ (zs : List Stmt). ys ++ zs) (joined_more xss xs) ∙ sym (append_assoc ys (joined xss) xs)

pub makes_more_arms : (arms : List LineArm) (arm : LineArm) {a b c : Maker} {xs : List Arm} {y : Arm} → Makes (in_order (map arm_of arms)) a b xs → Makes (arm_of arm) b c y
    → Makes (in_order (map arm_of (arms ++ arm ∷ []))) a c (xs ++ y ∷ [])
makes_more_arms arms arm {a} {b} {c} {xs} {y} h k = subst (λ (fs : List (Stands Arm)). Makes (in_order fs) a c (xs ++ y ∷ [])) (sym (map_more arm_of arms arm)) (more_made (map arm_of arms) (arm_of arm) h k)

-- lines, whose statements are joined

pub makes_no_lines : (a : Maker) → Makes (in_block []) a a []
makes_no_lines a = record { is = λ earlier m b held. refl; holds = λ earlier m b held. held }

pub makes_more_lines : (lines : List Line) (line : Line) {a b c : Maker} {xs ys : List Stmt} → Makes (in_block (map stmts_of lines)) a b xs → Makes (stmts_of line) b c ys
    → Makes (in_block (map stmts_of (lines ++ line ∷ []))) a c (xs ++ ys)
makes_more_lines lines line {a} {b} {c} {xs} {ys} h k =
    let fs : List (Stands (List Stmt)) = map stmts_of lines in
    subst (λ (gs : List (Stands (List Stmt))). Makes (in_block gs) a c (xs ++ ys)) (sym (map_more stmts_of lines line)) (record {
      is = λ earlier m before held.
          ap (λ (zs : List Stmt). zs ++ ys) (h.is earlier m before held)
          ∙ ap (λ (zs : List Stmt). joined (in_order fs before).0 ++ zs) (k.is earlier m (in_order fs before).1 (h.holds earlier m before held))
          ∙ sym (ap (λ (p : List (List Stmt) × Before). joined p.0) (in_order_more fs (stmts_of line) before) ∙ joined_more (in_order fs before).0 (stmts_of line (in_order fs before).1).0);
      holds = λ earlier m before held.
          subst (λ (p : List (List Stmt) × Before). Holds earlier m c p.1) (sym (in_order_more fs (stmts_of line) before)) (k.holds earlier m (in_order fs before).1 (h.holds earlier m before held));
    })

-- a line of each kind

pub makes_plain : (a : Maker) (s : Stmt) → Makes (stmts_of (entry.Plain s)) a a (s ∷ [])
makes_plain a s = as_stands {g = λ b. (s ∷ [], b)} (plain_stands s) (record { is = λ earlier m b held. refl; holds = λ earlier m b held. held })

pub makes_branch : (arms : List LineArm) (other : List Line) {a b c : Maker} {xs : List Arm} {ys : List Stmt} → Makes (in_order (map arm_of arms)) a b xs → Makes (in_block (map stmts_of other)) b c ys
    → Makes (stmts_of (entry.Branch arms other)) a c (stmt.When xs ys ∷ [])
makes_branch arms other {a} {b} {c} {xs} {ys} h k = as_stands (branch_stands arms other) (record {
  is = λ earlier m before held.
      ap (λ (zs : List Arm). stmt.When zs ys ∷ []) (h.is earlier m before held)
      ∙ ap (λ (zs : List Stmt). stmt.When (in_order (map arm_of arms) before).0 zs ∷ []) (k.is earlier m (in_order (map arm_of arms) before).1 (h.holds earlier m before held));
  holds = λ earlier m before held. k.holds earlier m (in_order (map arm_of arms) before).1 (h.holds earlier m before held);
})

pub makes_arm : (condition : Expr) (body : List Line) {a b : Maker} {xs : List Stmt} → Makes (in_block (map stmts_of body)) a b xs
    → Makes (arm_of (record { condition = condition; body = body })) a b (record { condition = condition; body = xs })
makes_arm condition body {a} {b} {xs} h = as_stands {g = λ before. (record { condition = condition; body = (in_block (map stmts_of body) before).0 }, (in_block (map stmts_of body) before).1)} (arm_stands condition body) (record {
  is = λ earlier m before held. ap (λ (zs : List Stmt). let made : Arm = record { condition = condition; body = zs } in made) (h.is earlier m before held);
  holds = λ earlier m before held. h.holds earlier m before held;
})

pub makes_print : (at : Place) (clock condition : Expr) (pieces : List Piece) (arguments : List Expr) {a b : Maker} {made : List Stmt} → Makes (the_item at clock condition arguments None pieces) a b made
    → Makes (stmts_of (entry.Print at clock condition pieces arguments)) a b made
makes_print at clock condition pieces arguments h = as_stands (print_stands at clock condition pieces arguments) h

pub makes_stop : (at : Place) (clock condition : Expr) (code : ℕ) {a b : Maker} {made : List Stmt} → Makes (the_item at clock condition [] (Some code) []) a b made
    → Makes (stmts_of (entry.Stop at clock condition code)) a b made
makes_stop at clock condition code h = as_stands (stop_stands at clock condition code) h

-- one item more

prints_more : (m k : ℕ) (items : List Item) (item : Item)
    → prints_from m k (items ++ item ∷ []) ≡ prints_from m k items ++ record { «module» = m; number = k + length items; stop = item.stop; pieces = item.pieces } ∷ []
prints_more m k [] item = let same : k ≡ k + length {A = Item} [] = omega arith in
    ap (λ (n : ℕ). prints_from m n (item ∷ [])) same
prints_more m k (first ∷ items) item =
    let same : k + 1 + length items ≡ k + length (first ∷ items) = omega arith in
    ap (λ (ps : List PrintItem). record { «module» = m; number = k; stop = first.stop; pieces = first.pieces } ∷ ps) (prints_more m (k + 1) items item
    ∙ ap (λ (n : ℕ). prints_from m (k + 1) items ++ record { «module» = m; number = n; stop = item.stop; pieces = item.pieces } ∷ []) same)

module _ (old new : Maker) (at : Place) (clock condition : Expr) (arguments : List Expr) (stop : Option ℕ) (pieces : List Piece) (made : List Stmt)
    (of : IsDistinct old.names → IsMade [] made new.names (item_stmts (length old.places) at clock condition arguments old.names))
    (same : new.module ≡ old.module) (places : new.places ≡ old.places ++ at ∷ [])
    (prints : new.prints ≡ old.prints ++ record { «module» = old.module; number = length old.places; stop = stop; pieces = pieces } ∷ []) where
  module _ (earlier : List PrintItem) (m : ℕ) (b : Before) (held : Holds earlier m old b) where
    counted : length old.places ≡ length b.items
    counted = ap length held.places ∙ length-map b.items (λ item. item.place)

    here : IsMade [] made new.names (item_stmts (length b.items) at clock condition arguments b.names)
    here = subst (λ (n : ℕ). IsMade [] made new.names (item_stmts n at clock condition arguments b.names)) counted
        (subst (λ (ns : List (List ℕ)). IsMade [] made new.names (item_stmts (length old.places) at clock condition arguments ns)) held.names (of (rw held.names held.distinct)))

    item_is : made ≡ (the_item at clock condition arguments stop pieces b).0
    item_is = here.statements

    the_one : Item
    the_one = record { place = at; stop = stop; pieces = pieces }

    item_holds : Holds earlier m new (the_item at clock condition arguments stop pieces b).1
    unfolding the_one
    item_holds = record {
      names = here.names;
      distinct = subst IsDistinct here.names here.distinct;
      number = same ∙ held.number;
      places = places ∙ ap (λ (ps : List Place). ps ++ at ∷ []) held.places ∙ sym (map_more (λ item. item.place) b.items the_one);
      prints = prints ∙ ap (λ (ps : List PrintItem). ps ++ record { «module» = old.module; number = length old.places; stop = stop; pieces = pieces } ∷ []) held.prints
          ∙ append_assoc earlier (prints_from m 0 b.items) _
          ∙ ap (λ (ps : List PrintItem). earlier ++ ps) (
          ap (λ (n : ℕ). prints_from m 0 b.items ++ record { «module» = n; number = length old.places; stop = stop; pieces = pieces } ∷ []) held.number
          ∙ ap (λ (n : ℕ). prints_from m 0 b.items ++ record { «module» = m; number = n; stop = stop; pieces = pieces } ∷ []) (let from : length old.places ≡ 0 + length b.items = omega (arith, counted) in from)
          ∙ sym (prints_more m 0 b.items the_one));
    }

  pub makes_item : Makes (the_item at clock condition arguments stop pieces) old new made
  makes_item = record { is = item_is; holds = item_holds }
