-- A renaming of the squares that keeps rays, and what it makes of a position.
use Rattle.std.proofs.Common.{◌≡◌, ℕ, ◌<◌, Bool, true, cond, ◌&&◌, eqb, ltb, List, length, get_or, map, Some, refl, sym, ◌∙◌, ap, arith}
use Rattle.std.specs.List.{Contains, list_any, list_all, sum_by}
use Rattle.std.proofs.lemmas.Bool.{agree_below, agree_below_at, eqb-true, ltb-true, and_parts}
use Rattle.std.proofs.lemmas.List.{same_lists, get_or_default}
use Rattle.std.proofs.lemmas.List.FromFn.{length-map-range_with_len, get_or-map-range_with_len, fill_by_all}
use Rattle.std.proofs.lemmas.Option.{slice_get-get_or}
use Rattle.othello_rules.specs.declared.direction.Direction.{Direction}
use Rattle.othello_rules.specs.declared.discs.Cell.{Cell}
use Rattle.othello_rules.specs.declared.discs.Cell.TheVariants.{Empty}
use Rattle.othello_rules.specs.Board.{squares, directions, ray}
use Rattle.othello_rules.specs.Rules.{GridView, has, is_some_cell, same_cell, count_of}
use Rattle.othello_rules.specs.Renamed.{moved_cells, image_by}
use Rattle.othello_rules.proofs.Reorder.{same_list, same_list-true, reordered, sum_by-reordered, sum_by-map, member-list_any, list_all-member}

-- `to` sends squares to squares, `back` undoes it, and the rays of the image of q are the images of the rays of q
pub record Keeps (to back : ℕ → ℕ) : Type 0 where
  pub on_board : (q : ℕ) → q < 64 → to q < 64
  pub comes_back : (q : ℕ) → q < 64 → back (to q) ≡ q
  pub rays : (q : ℕ) (d : Direction) → q < 64 → Contains directions d → (e : Direction) × Contains directions e × (ray e (to q) ≡ map to (ray d q))
  pub sums : (f : ℕ → ℕ) → sum_by f (map to squares) ≡ sum_by f squares

pub record Renaming : Type 0 where
  pub to : ℕ → ℕ
  pub back : ℕ → ℕ
  pub there : Keeps to back
  pub here : Keeps back to

abbrev pub flipped : Renaming → Renaming
flipped r = record { to = r.back; back = r.to; there = r.here; here = r.there }

-- tests by computing, from which `Keeps` follows
abbrev pub ray_fits : (ℕ → ℕ) → ℕ → Direction → Bool
ray_fits to q d = list_any (λ e. same_list (ray e (to q)) (map to (ray d q))) directions

abbrev pub fits : (ℕ → ℕ) → (ℕ → ℕ) → ℕ → Bool
fits to back q = ltb (to q) 64 && (eqb (back (to q)) q && list_all (ray_fits to q) directions)

pub Keeps-from_tests : (to back : ℕ → ℕ) → agree_below (fits to back) (λ q. true) 64 ≡ true → reordered (map to squares) squares ≡ true → Keeps to back
Keeps-from_tests to back h k = record {
  on_board = λ q b. ltb-true (to q) 64 (at q b).0;
  comes_back = λ q b. eqb-true (back (to q)) q (at q b).1;
  rays =
      λ q d b c. found q d
      (member-list_any (λ e. same_list (ray e (to q)) (map to (ray d q))) directions (list_all-member (ray_fits to q) directions d (at q b).2 c));
  sums = λ f. sum_by-reordered f (map to squares) squares k;
}
  where
    at : (q : ℕ) → q < 64 → (ltb (to q) 64 ≡ true) × (eqb (back (to q)) q ≡ true) × (list_all (ray_fits to q) directions ≡ true)
    at q b =
        let one : (ltb (to q) 64 ≡ true) × ((eqb (back (to q)) q && list_all (ray_fits to q) directions) ≡ true) =
        and_parts (ltb (to q) 64) (eqb (back (to q)) q && list_all (ray_fits to q) directions) (agree_below_at (fits to back) (λ q. true) 64 q h b) in
        let two : (eqb (back (to q)) q ≡ true) × (list_all (ray_fits to q) directions ≡ true) =
        and_parts (eqb (back (to q)) q) (list_all (ray_fits to q) directions) one.1 in
        (one.0, two.0, two.1)

    found : (q : ℕ) (d : Direction) → (e : Direction) × Contains directions e × (same_list (ray e (to q)) (map to (ray d q)) ≡ true)
        → (e : Direction) × Contains directions e × (ray e (to q) ≡ map to (ray d q))
    found q d r = (r.0, r.1, same_list-true (ray r.0 (to q)) (map to (ray d q)) r.2)

-- no ray leaves the board
pub ray_on_board : (q : ℕ) (d : Direction) (s : ℕ) → q < 64 → Contains directions d → Contains (ray d q) s → s < 64
unfolding ray directions
ray_on_board q d s b c m =
    ltb-true s 64
    (list_all-member (λ s. ltb s 64) (ray d q) s
    (list_all-member (λ d. list_all (λ s. ltb s 64) (ray d q)) directions d
    (agree_below_at (λ q. list_all (λ d. list_all (λ s. ltb s 64) (ray d q)) directions) (λ q. true) 64 q refl b) c)
    m)

-- the cells of an image
pub length-moved_cells : (back : ℕ → ℕ) (cells : List Cell) → length (moved_cells back cells) ≡ 64
unfolding moved_cells squares
length-moved_cells back cells = length-map-range_with_len (λ q. get_or cells (back q) Empty) 0 64

pub get_or-moved_cells : (back : ℕ → ℕ) (cells : List Cell) (k : ℕ) (d : Cell) → k < 64 → get_or (moved_cells back cells) k d ≡ get_or cells (back k) Empty
unfolding moved_cells squares
get_or-moved_cells back cells k d h = get_or-map-range_with_len (λ q. get_or cells (back q) Empty) 0 64 k k d h (omega arith)

pub same_position : (P Q : GridView) → P.mover ≡ Q.mover → P.cells ≡ Q.cells → P ≡ Q
same_position P Q m c = λ i. record { cells = c i; mover = m i }

-- images of images, and the image that is the position itself
pub image_by-image_by : (f g h : ℕ → ℕ) (P : GridView) → ((q : ℕ) → q < 64 → f q < 64)
    → ((q : ℕ) → q < 64 → g (f q) ≡ h q) → image_by f (image_by g P) ≡ image_by h P
image_by-image_by f g h P within same =
    same_position (image_by f (image_by g P)) (image_by h P) refl
    (same_lists (moved_cells f (moved_cells g P.cells)) (moved_cells h P.cells)
    (length-moved_cells f (moved_cells g P.cells) ∙ sym (length-moved_cells h P.cells))
    (λ k d b.
    let l : k < 64 = rw length-moved_cells at b in
    get_or-moved_cells f (moved_cells g P.cells) k d l
    ∙ get_or-moved_cells g P.cells (f k) Empty (within k l)
    ∙ ap (λ n. get_or P.cells n Empty) (same k l)
    ∙ sym (get_or-moved_cells h P.cells k d l)))

pub image_by-still : (h : ℕ → ℕ) (P : GridView) → length P.cells ≡ 64 → ((q : ℕ) → q < 64 → h q ≡ q) → image_by h P ≡ P
image_by-still h P full same =
    same_position (image_by h P) P refl
    (same_lists (moved_cells h P.cells) P.cells (length-moved_cells h P.cells ∙ sym full)
    (λ k d b.
    let l : k < 64 = rw length-moved_cells at b in
    let inside : k < length P.cells = rw full l in
    get_or-moved_cells h P.cells k d l ∙ ap (λ n. get_or P.cells n Empty) (same k l) ∙ get_or_default P.cells k Empty d inside))

pub image_by-back : (r : Renaming) (P : GridView) → length P.cells ≡ 64 → image_by r.to (image_by r.back P) ≡ P
image_by-back r P full =
    image_by-image_by r.to r.back (λ q. r.back (r.to q)) P r.there.on_board (λ q b. refl) ∙ image_by-still (λ q. r.back (r.to q)) P full r.there.comes_back

-- a cell of the image
pub has-image_by : (back : ℕ → ℕ) (P : GridView) (c : Cell) (k : ℕ) → length P.cells ≡ 64 → k < 64 → back k < 64 → has (image_by back P) c k ≡ has P c (back k)
has-image_by back P c k full h l =
    let a : k < length (moved_cells back P.cells) = rw length-moved_cells h in
    let b : back k < length P.cells = rw full l in
    ap (is_some_cell c)
    (slice_get-get_or (moved_cells back P.cells) k Empty a
    ∙ ap Some (get_or-moved_cells back P.cells k Empty h)
    ∙ sym (slice_get-get_or P.cells (back k) Empty b))

pub has-sent : (r : Renaming) (P : GridView) (c : Cell) (q : ℕ) → length P.cells ≡ 64 → q < 64 → has (image_by r.back P) c (r.to q) ≡ has P c q
has-sent r P c q full h =
    let home : r.back (r.to q) ≡ q = r.there.comes_back q h in
    has-image_by r.back P c (r.to q) full (r.there.on_board q h) (rw home h) ∙ ap (has P c) home

pub all_cells : (cells : List Cell) → length cells ≡ 64 → cells ≡ map (λ k. get_or cells k Empty) squares
unfolding squares
all_cells cells full = fill_by_all (λ k. get_or cells k Empty) cells 64 Empty full (λ k h. refl)

-- discs of each kind are as many
pub count_of-image_by : (r : Renaming) (P : GridView) (c : Cell) → length P.cells ≡ 64 → count_of (image_by r.back P) c ≡ count_of P c
unfolding moved_cells
count_of-image_by r P c full =
    let f : Cell → ℕ = λ x. cond (same_cell c x) 1 0 in
    let whole : P.cells ≡ map (λ k. get_or P.cells k Empty) squares = all_cells P.cells full in
    sum_by-map f (λ q. get_or P.cells (r.back q) Empty) squares
    ∙ sym (sum_by-map (λ k. f (get_or P.cells k Empty)) r.back squares)
    ∙ r.here.sums (λ k. f (get_or P.cells k Empty))
    ∙ sym (sum_by-map f (λ k. get_or P.cells k Empty) squares)
    ∙ ap (sum_by f) (sym whole)
