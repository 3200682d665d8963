-- The items of a run, the `printf` and `stop` lines: those of a module by rising number, then those of its instances in text order in the
-- same way, from main on. What a line stands for is found by the names that no text can write: `#k` is the wire of item k, and `#kaj` the
-- node of its argument j.
use Rattle.std.specs.Prelude.{◌≡◌, ℕ, ◌==◌, ◌*◌, Bool, false, List, [], ◌∷◌, ◌++◌, map, filter, filter_map, drop, length, slice_get, Option, Some, None, option_and_then}
use Rattle.std.specs.List.{range_with_len}
use Rattle.fir_tree.specs.declared.expr.Expr.{Expr}
use Rattle.fir_tree.specs.declared.stmt.Stmt.{Stmt}
use Rattle.fir_tree.specs.declared.print.PrintItem.{PrintItem}
use Rattle.fir_tree.specs.LeafNames.{Texts}
use Rattle.item_lines.specs.Formats.{shows}
use Rattle.item_lines.specs.Items.{wire_name, argument_name, number_in}
use Rattle.fir_meaning.specs.Components.{Design, TypedModule, Component, Sort, A_node, module_named, component_named, target_in}
use Rattle.print_stop.specs.Printing.{PathItem}

-- the statements of a component's block, and the expression of a node
abbrev pub block_of : Option Component → List Stmt
block_of (Some c) = c.declaration.block
block_of None = []

abbrev pub expression_in : Sort → Option Expr
expression_in (A_node e) = Some e
expression_in _ = None

abbrev pub node_expression : Option Component → Option Expr
node_expression o = option_and_then (λ c. expression_in c.declaration.sort) o

-- the number of the node of argument j
abbrev pub node_of : Texts → PrintItem → ℕ → ℕ
node_of texts print j = number_in texts (argument_name print.number j)

-- An item of a module at a path, where its module has so many: two statements for each of them stand before the others, the wire and its
-- first connect. Its arguments are what their nodes have.
abbrev pub item_of : Texts → ℕ → List ℕ → TypedModule → PrintItem → PathItem
item_of texts count path m print =
    let wire = number_in texts (wire_name print.number) in
    record {
      path = path;
      wire = wire;
      behind = drop (2 * count) (block_of (component_named m wire));
      stop = print.stop;
      pieces = print.pieces;
      arguments = filter_map (λ j. node_expression (component_named m (node_of texts print j))) (range_with_len 0 (shows print.pieces));
    }

-- the items of a module: it is named as the module of their number
abbrev pub is_named : ℕ → Option TypedModule → Bool
is_named name (Some m) = m.name == name
is_named name None = false

abbrev pub prints_of : Design → List PrintItem → TypedModule → List PrintItem
prints_of design prints m = filter (λ print. is_named m.name (slice_get design.modules print.«module»)) prints

module _ (texts : Texts) (design : Design) (prints : List PrintItem) where
  -- a module's own items at a path
  abbrev pub own_items : List ℕ → TypedModule → List PathItem
  own_items path m =
      let own = prints_of design prints m in
      map (item_of texts (length own) path m) own

  -- Those of the instances among components of the module at a path, and of theirs.
  pub data InInstances : List ℕ → List Component → List PathItem → Type 0 where
    no_more : {path : List ℕ} → InInstances path [] []
    no_instance : {path : List ℕ} {c : Component} {cs : List Component} {rest : List PathItem} → target_in c.declaration.sort ≡ None → InInstances path cs rest
        → InInstances path (c ∷ cs) rest
    an_instance : {path : List ℕ} {c : Component} {cs : List Component} {own rest : List PathItem} (target : ℕ) (n : TypedModule) → target_in c.declaration.sort ≡ Some target
        → module_named design target ≡ Some n → InInstances (path ++ c.declaration.name ∷ []) n.components own → InInstances path cs rest
        → InInstances path (c ∷ cs) ((own_items (path ++ c.declaration.name ∷ []) n ++ own) ++ rest)

  -- All items of a run in order.
  pub record AreItems (items : List PathItem) : Type 0 where
    pub main : TypedModule
    pub found : module_named design design.main ≡ Some main
    pub rest : List PathItem
    pub instances : InInstances [] main.components rest
    pub are : items ≡ own_items [] main ++ rest
