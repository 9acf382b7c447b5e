-- The layout by its parts: names and sizes of all entries are known before the contents of the nodes.
use Rattle.std.proofs.Common.{◌≡◌, ℕ, ◌+◌, ◌*◌, ◌<◌, get_or, List, [], ◌∷◌, ◌++◌, length, map, take, drop}
use Rattle.std.proofs.Common.{slice_get, Some, refl, sym, ap, ◌∙◌, arith, append_assoc, length-append}
use Rattle.std.specs.Prelude.{sum}
use Rattle.std.specs.List.{flat_map, range_with_len}
use Rattle.std.proofs.lemmas.List.{append-nil, map-append, length-map, take-append-drop}
use Rattle.std.proofs.lemmas.List.Sums.{sum_by-cons}
use Rattle.std.proofs.lemmas.List.FromFn.{length-map-range_with_len}
use Rattle.jm_bytes.specs.declared.words.Order.{Order}
use Rattle.jm_bytes.specs.declared.words.Order.TheVariants.{Little, Big}
use Rattle.jm_bytes.specs.Word.{word_bytes}
use Rattle.jm_form.specs.Strings.{section_of}
use Rattle.jm_form.specs.declared.trees.Holds.{Holds}
use Rattle.jm_form.specs.declared.trees.Holds.TheVariants.{Children, Owners}
use Rattle.jm_form.specs.declared.trees.Owner.{Owner}
use Rattle.jm_form.specs.declared.trees.TreeNode.{TreeNode}
use Rattle.jm_form.specs.Greedy.{GreedyTable, word_of}
use Rattle.jm_form.specs.Layout.{Index, Written, all_sized, contents_text, holds_size, index_of}
use Rattle.jm_form.specs.Layout.{index_text, index_words, layout_index, layout_with, locations_text, names_of}
use Rattle.jm_form.specs.Layout.{name_place, node_words, owner_words, row_place, sized, sized_node, written_node, written_nodes, all_names}
use Rattle.jm_form.specs.Nodes.{words_text}
use Rattle.jm_form.specs.Trees.{tree_nodes}
use Rattle.jm_writer.proofs.ItemLaws.{drop_at_index, take_there}

-- The contents of nodes

word_length : (order : Order) (n : ℕ) → length (word_bytes order n) ≡ 4
word_length Little n = refl
word_length Big n = refl

-- a word has four bytes
pub words_length : (order : Order) (words : List ℕ) → length (words_text order words) ≡ 4 * length words
words_length order [] = refl
words_length order (word ∷ words) =
    let one = word_length order word in
    let rest = words_length order words in
    let all = length-append (word_bytes order word) (words_text order words) in
    omega (arith, one, rest, all)

-- one word more is put
pub word_put : {A : Type 0} (order : Order) (f : A → ℕ) (xs : List A) (i : ℕ) (d : A) (text : List ℕ) → i < length xs
    → (text ++ word_bytes order (f (get_or xs i d))) ++ words_text order (map f (drop (i + 1) xs))
    ≡ text ++ words_text order (map f (drop i xs))
word_put order f xs i d text below =
    append_assoc text (word_bytes order (f (get_or xs i d))) (words_text order (map f (drop (i + 1) xs)))
    ∙ ap (λ l. text ++ words_text order (map f l)) (sym (drop_at_index xs i d below))

owners_length : (index : Index) (owners : List Owner) → length (flat_map (owner_words index) owners) ≡ 2 * length owners
owners_length index [] = refl
owners_length index (owner ∷ owners) = let rest = owners_length index owners in omega (arith, rest)

holds_length : (index : Index) (names : List (List ℕ)) (holds : Holds)
    → length (words_text index.order (node_words index names holds)) ≡ holds_size holds
holds_length index names (Children list) =
    let words = node_words index names (Children list) in
    words_length index.order words ∙ ap (λ n. 4 * n) (length-map list (name_place index names))
holds_length index names (Owners owners) =
    let words = words_length index.order (flat_map (owner_words index) owners) in
    let two = owners_length index owners in
    omega (arith, words, two)

sized_written : (index : Index) (names : List (List ℕ)) (nodes : List TreeNode) → map sized (map (written_node index names) nodes)
    ≡ map sized_node nodes
sized_written index names [] = refl
sized_written index names (node ∷ nodes) =
    ap (λ (n : ℕ). record { name = node.name; size = n } ∷ map sized (map (written_node index names) nodes))
    (holds_length index names node.holds)
    ∙ ap (λ l. sized_node node ∷ l) (sized_written index names nodes)

-- the entries have the names and sizes that were known before
pub sized_layout : (index : Index) (pool : List Written) → map sized (pool ++ written_nodes index pool) ≡ all_sized pool
sized_layout index pool =
    map-append sized pool (written_nodes index pool)
    ∙ ap (λ l. map sized pool ++ l) (sized_written index (all_names pool) (tree_nodes (names_of pool)))

-- The parts

pub contents-append : (first second : List Written) → contents_text (first ++ second) ≡ contents_text first ++ contents_text second
contents-append [] second = refl
contents-append (e ∷ first) second = ap (λ l. e.1 ++ l) (contents-append first second)
    ∙ sym (append_assoc e.1 (contents_text first) (contents_text second))

-- one content more behind a front, and what is left behind it
pub contents_more : (es : List Written) (place : ℕ) (e : Written) (front : List ℕ) → slice_get es place ≡ Some e
    → (front ++ contents_text (take place es)) ++ e.1 ≡ front ++ contents_text (take (place + 1) es)
contents_more es place e front is =
    append_assoc front (contents_text (take place es)) e.1
    ∙ ap (λ l. front ++ l)
    (ap (λ l. contents_text (take place es) ++ l) (sym (append-nil e.1))
    ∙ sym (contents-append (take place es) (e ∷ []))
    ∙ ap contents_text (sym (take_there es place e is)))

pub contents_ends : (es : List Written) (place : ℕ) (e : Written) (front : List ℕ) → slice_get es place ≡ Some e
    → ((front ++ contents_text (take place es)) ++ e.1) ++ contents_text (drop (place + 1) es) ≡ front ++ contents_text es
contents_ends es place e front is =
    ap (λ l. l ++ contents_text (drop (place + 1) es)) (contents_more es place e front is)
    ∙ append_assoc front (contents_text (take (place + 1) es)) (contents_text (drop (place + 1) es))
    ∙ ap (λ l. front ++ l)
    (sym (contents-append (take (place + 1) es) (drop (place + 1) es))
    ∙ ap contents_text (take-append-drop (place + 1) es))

-- the index, the contents of the resources, and those of the nodes
pub layout_parts : (order : Order) (pool : List Written) (table : GreedyTable) → layout_with order pool table
    ≡ index_text (layout_index order table pool)
    ++ (contents_text pool ++ contents_text (written_nodes (layout_index order table pool) pool))
layout_parts order pool table =
    let index = layout_index order table pool in
    let nodes = written_nodes index pool in
    ap (λ es. index_text (index_of order table es) ++ contents_text (pool ++ nodes)) (sized_layout index pool)
    ∙ ap (λ c. index_text index ++ c) (contents-append pool nodes)

-- The length

contents_length : (es : List Written) → length (contents_text es) ≡ sum (map (λ e. e.size) (map sized es))
contents_length [] = refl
contents_length (e ∷ es) =
    let all = length-append e.1 (contents_text es) in
    let rest = contents_length es in
    let more = sum_by-cons (λ n. n) (length e.1) (map (λ e. e.size) (map sized es)) in
    omega (arith, all, rest, more)

pub layout_length : (order : Order) (pool : List Written) (table : GreedyTable) → length table.redirects ≡ table.length
    → length (layout_with order pool table)
    ≡ ((28 + 8 * table.length) + length (locations_text (layout_index order table pool))
    + length (section_of (layout_index order table pool).texts)) + sum (map (λ e. e.size) (all_sized pool))
layout_length order pool table redirects =
    let index = layout_index order table pool in
    let es = pool ++ written_nodes index pool in
    let same = ap (λ l. length (index_text (index_of order table l) ++ contents_text es)) (sized_layout index pool) in
    let both = length-append (index_text index) (contents_text es) in
    let head = length-append (words_text order (index_words index)) (locations_text index ++ section_of index.texts) in
    let two = length-append (locations_text index) (section_of index.texts) in
    let words = words_length order (index_words index) in
    let given = length-map table.redirects word_of in
    let places = length-map-range_with_len (row_place index) 0 table.length in
    let lists = length-append (map word_of table.redirects) (map (row_place index) (range_with_len 0 table.length)) in
    let contents = contents_length es ∙ ap (λ l. sum (map (λ e. e.size) l)) (sized_layout index pool) in
    omega (arith, same, both, head, two, words, given, places, lists, contents, redirects)
