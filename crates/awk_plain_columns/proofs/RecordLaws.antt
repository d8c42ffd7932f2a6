-- Objects of a record's type as they stand: the member at each place, in all of them.
use Rattle.std.proofs.Common.{◌≡◌, ℕ, zero, suc, ◌+◌, ◌<◌, ◌≤◌, List, [], ◌∷◌, ◌++◌, map, length}
use Rattle.std.proofs.Common.{true, refl, ap, sym, ◌∙◌, subst, arith, get_or, drop}
use Rattle.std.proofs.Common.{append-nil, append_assoc, length-append, slice_get, Some}
use Rattle.std.specs.Prelude.{◌&&◌}
use Rattle.std.specs.Option.{option_map}
use Rattle.std.proofs.Math.Seq.{drop-append_seam}
use Rattle.std.proofs.lemmas.List.{drop_all, drop_more, get_or_append_left, length-map}
use Rattle.std.proofs.lemmas.Option.{slice_get-map}
use Rattle.serde_json.specs.Data.{Data, null, boolean, number, string, array, object}
use Rattle.serde_json.specs.Data.{Members, no_members, member}
use Rattle.std.proofs.lemmas.Bool.{and_parts}
use Rattle.awk_base.proofs.Lists.{drop-get}
use Rattle.awk_types.proofs.Trees.{type_list-from}
use Rattle.awk_types.specs.DataType.{DataType, DataTypes, Name, depth, depths, greatest, rec}
use Rattle.awk_types.specs.DataType.{type_list, types_from}
use Rattle.awk_types.specs.IsType.{count}
use Rattle.awk_types.specs.Names.{same_name}
use Rattle.awk_types.specs.View.{NamedType, names_of, types_of}
use Rattle.awk_types.proofs.PartLimits.{depth_part}
use Rattle.awk_plain.specs.IsPlain.{HavePlain}
use Rattle.awk_plain.specs.Suits.{members_suit, own_parts, own_value, suits}
use Rattle.awk_plain_columns.specs.Suited.{AllSuit, AreWide, HasColumns, HaveColumns, Suits}
use Rattle.awk_plain_columns.specs.Suited.{has_columns, have_columns, joined_members, member_at}
use Rattle.awk_plain_columns.specs.Suited.{member_list, members_at, members_of}

pub own_member_list : (ms : Members) → own_parts ms ≡ map own_value (member_list ms)
own_member_list no_members = refl
own_member_list (member key d ms) = ap (λ vs. own_value d ∷ vs) (own_member_list ms)

-- ---- what suits a record

members_count : (ns : List Name) (ts : List DataType) (ms : Members)
    → members_suit ns ts ms ≡ true → length (member_list ms) ≡ length ts
members_count [] [] no_members e = refl
members_count [] [] (member key d ms) e = absurd (cc)
members_count [] (t ∷ ts) ms e = absurd (cc)
members_count (n ∷ ns) [] ms e = absurd (cc)
members_count (n ∷ ns) (t ∷ ts) no_members e = absurd (cc)
members_count (n ∷ ns) (t ∷ ts) (member key d ms) e =
    let f = and_parts (same_name n key) (suits t d && members_suit ns ts ms) e in
    let g = and_parts (suits t d) (members_suit ns ts ms) f.1 in
    ap suc (members_count ns ts ms g.1)

pub wide_at : (ns : List Name) (ts : DataTypes) (d : Data) → Suits (rec ns ts) d
    → length (members_of d) ≡ count ts
wide_at ns ts (object ms) s = members_count ns (type_list ts) ms s.1
wide_at ns ts null s = absurd (let e = s.1 in cc)
wide_at ns ts (boolean b) s = absurd (let e = s.1 in cc)
wide_at ns ts (number n) s = absurd (let e = s.1 in cc)
wide_at ns ts (string c) s = absurd s.0
wide_at ns ts (array es) s = absurd (let e = s.1 in cc)

all_wide : (ns : List Name) (ts : DataTypes) (w : ℕ) (ds : List Data) → w ≡ count ts
    → AllSuit (rec ns ts) ds → AreWide w ds
all_wide ns ts w [] e a = tt
all_wide ns ts w (d ∷ ds) e a = (wide_at ns ts d a.0 ∙ sym e, all_wide ns ts w ds e a.1)

-- each object has a member for each field
pub fields_wide : (fs : List NamedType) (w : ℕ) (ds : List Data) → w ≡ length fs
    → AllSuit (rec (names_of fs) (types_of fs)) ds → AreWide w ds
fields_wide fs w ds e a =
    all_wide (names_of fs) (types_of fs) w ds
    (e ∙ sym (ap length (type_list-from (map (λ f. f.typ) fs)) ∙ length-map fs (λ f. f.typ))) a

member_suits : (ns : List Name) (ts : List DataType) (ms : Members) (k : ℕ) (u : DataType)
    → HavePlain ms → members_suit ns ts ms ≡ true → slice_get ts k ≡ Some u
    → Suits u (get_or (member_list ms) k null)
member_suits [] [] no_members k u p e at = absurd (cc)
member_suits [] [] (member key d ms) k u p e at = absurd (cc)
member_suits [] (t ∷ ts) ms k u p e at = absurd (cc)
member_suits (n ∷ ns) [] ms k u p e at = absurd (cc)
member_suits (n ∷ ns) (t ∷ ts) no_members k u p e at = absurd (cc)
member_suits (n ∷ ns) (t ∷ ts) (member key d ms) zero u p e at =
    let f = and_parts (same_name n key) (suits t d && members_suit ns ts ms) e in
    let g = and_parts (suits t d) (members_suit ns ts ms) f.1 in
    let same : t ≡ u = cc in
    subst (λ w. Suits w d) same (p.0, g.0)
member_suits (n ∷ ns) (t ∷ ts) (member key d ms) (suc k) u p e at =
    let f = and_parts (same_name n key) (suits t d && members_suit ns ts ms) e in
    let g = and_parts (suits t d) (members_suit ns ts ms) f.1 in
    member_suits ns ts ms k u p.1 g.1 at

suits_at : (ns : List Name) (ts : DataTypes) (k : ℕ) (u : DataType) (d : Data)
    → Suits (rec ns ts) d → slice_get (type_list ts) k ≡ Some u → Suits u (member_at k d)
suits_at ns ts k u (object ms) s at = member_suits ns (type_list ts) ms k u s.0.1 s.1 at
suits_at ns ts k u null s at = absurd (let e = s.1 in cc)
suits_at ns ts k u (boolean b) s at = absurd (let e = s.1 in cc)
suits_at ns ts k u (number n) s at = absurd (let e = s.1 in cc)
suits_at ns ts k u (string c) s at = absurd s.0
suits_at ns ts k u (array es) s at = absurd (let e = s.1 in cc)

all_suit_at : (ns : List Name) (ts : DataTypes) (k : ℕ) (u : DataType) (ds : List Data)
    → AllSuit (rec ns ts) ds → slice_get (type_list ts) k ≡ Some u → AllSuit u (members_at k ds)
all_suit_at ns ts k u [] a at = tt
all_suit_at ns ts k u (d ∷ ds) a at =
    (suits_at ns ts k u d a.0 at, all_suit_at ns ts k u ds a.1 at)

pub type_at : (fs : List NamedType) (k : ℕ) (f : NamedType) → slice_get fs k ≡ Some f
    → slice_get (map (λ g. g.typ) fs) k ≡ Some f.typ
type_at fs k f at =
    slice_get-map (λ (g : NamedType). g.typ) fs k ∙ ap (option_map (λ (g : NamedType). g.typ)) at

-- the members at a place are of the type of the field there
pub members_suit_at : (fs : List NamedType) (k : ℕ) (f : NamedType) (ds : List Data)
    → AllSuit (rec (names_of fs) (types_of fs)) ds → slice_get fs k ≡ Some f
    → AllSuit f.typ (members_at k ds)
members_suit_at fs k f ds a at =
    all_suit_at (names_of fs) (types_of fs) k f.typ ds a
    (ap (λ ts. slice_get ts k) (type_list-from (map (λ g. g.typ) fs)) ∙ type_at fs k f at)

-- ---- types

columns_at : (ts : List DataType) (k : ℕ) (t : DataType) → HaveColumns (types_from ts)
    → slice_get ts k ≡ Some t → HasColumns t
columns_at [] k t h at = absurd (cc)
columns_at (u ∷ ts) zero t h at = let same : u ≡ t = cc in subst HasColumns same h.0
columns_at (u ∷ ts) (suc k) t h at = columns_at ts k t h.1 at

pub field_columns_at : (fs : List NamedType) (k : ℕ) (f : NamedType) → HaveColumns (types_of fs)
    → slice_get fs k ≡ Some f → HasColumns f.typ
field_columns_at fs k f h at = columns_at (map (λ g. g.typ) fs) k f.typ h (type_at fs k f at)

pub field_depth : (fs : List NamedType) (k : ℕ) (f : NamedType) → slice_get fs k ≡ Some f
    → depth f.typ ≤ greatest (depths (types_of fs))
field_depth fs k f at = depth_part (map (λ g. g.typ) fs) k f.typ (type_at fs k f at)

-- ---- the members at a place, of all members

-- those so far, and the members of the objects that are left
pub record AreTaken (k : ℕ) (ds rest : List Data) (i : ℕ) (made : List Data) : Type 0 where
  pub left : joined_members (drop i ds) ≡ rest
  pub all : members_at k ds ≡ made ++ members_at k (drop i ds)

pub none_taken : (k : ℕ) (ds ps : List Data) → ps ≡ joined_members ds → AreTaken k ds ps 0 []
none_taken k ds ps e = record { left = sym e; all = refl }

wide_here : (w : ℕ) (ds : List Data) (i : ℕ) → AreWide w ds → i < length ds
    → length (members_of (get_or ds i null)) ≡ w
wide_here w [] i a l = absurd (omega (arith, l))
wide_here w (d ∷ ds) zero a l = a.0
wide_here w (d ∷ ds) (suc i) a l = wide_here w ds i a.1 (omega (arith, l))

next_left : (k : ℕ) (ds rest : List Data) (i : ℕ) (made : List Data) → i < length ds
    → AreTaken k ds rest i made
    → members_of (get_or ds i null) ++ joined_members (drop (i + 1) ds) ≡ rest
next_left k ds rest i made l h = sym (ap joined_members (drop_more ds i null l)) ∙ h.left

pub next_fits : (w k : ℕ) (ds rest : List Data) (i : ℕ) (made : List Data) → AreWide w ds
    → i < length ds → AreTaken k ds rest i made → w ≤ length rest
next_fits w k ds rest i made a l h =
    let ms = members_of (get_or ds i null) in
    let later = joined_members (drop (i + 1) ds) in
    omega (
      arith,
      wide_here w ds i a l,
      length-append ms later,
      ap length (next_left k ds rest i made l h),
    )

pub taken_more : (w k : ℕ) (ds rest later : List Data) (i : ℕ) (made new : List Data)
    → AreWide w ds → k < w → i < length ds → AreTaken k ds rest i made
    → new ≡ made ++ get_or rest k null ∷ [] → later ≡ drop w rest
    → AreTaken k ds later (i + 1) new
taken_more w k ds rest later i made new a q l h e f =
    let d = get_or ds i null in
    let ms = members_of d in
    let behind = joined_members (drop (i + 1) ds) in
    let others = members_at k (drop (i + 1) ds) in
    let wide : length ms ≡ w = wide_here w ds i a l in
    let here : ms ++ behind ≡ rest = next_left k ds rest i made l h in
    let part : member_at k d ≡ get_or rest k null =
    sym (get_or_append_left ms behind null k (omega (arith, q, wide)))
    ∙ ap (λ us. get_or us k null) here in
    record {
      left =
          sym (drop-append_seam ms behind)
          ∙ ap (λ m. drop m (ms ++ behind)) wide
          ∙ ap (drop w) here ∙ sym f;
      all =
          h.all ∙ ap (λ es. made ++ members_at k es) (drop_more ds i null l)
          ∙ ap (λ u. made ++ u ∷ others) part
          ∙ sym (append_assoc made (get_or rest k null ∷ []) others)
          ∙ ap (λ us. us ++ others) (sym e);
    }

pub taken_all : (k : ℕ) (ds rest : List Data) (i : ℕ) (made : List Data) → length ds ≤ i
    → AreTaken k ds rest i made → made ≡ members_at k ds
taken_all k ds rest i made l h =
    sym (h.all ∙ ap (λ es. made ++ members_at k es) (drop_all i ds l) ∙ append-nil made)

-- ---- fields, one after another

pub columns_next : (fs : List NamedType) (k : ℕ) (f : NamedType) → slice_get fs k ≡ Some f
    → have_columns (types_of (drop k fs))
    ≡ (has_columns f.typ && have_columns (types_of (drop (k + 1) fs)))
columns_next fs k f at = ap (λ gs. have_columns (types_of gs)) (drop-get fs k f at)

pub types_next : (fs : List NamedType) (k : ℕ) (f : NamedType) → slice_get fs k ≡ Some f
    → map (λ g. g.typ) (drop k fs) ≡ f.typ ∷ map (λ g. g.typ) (drop (k + 1) fs)
types_next fs k f at = ap (map (λ (g : NamedType). g.typ)) (drop-get fs k f at)
