-- Types put into the alternatives of a union, one after another.
use Rattle.std.specs.Prelude.{◌∷◌, ◌++◌, [], List, None, Option, Some, length, suc}
use Rattle.awk_unify.specs.Carries.{all_same, each_then, put_after}
use Rattle.awk_unify.specs.Carry.{carries_from, keep, to_alternatives}
use Rattle.awk_unify.specs.Join.{Joining}
use Rattle.awk_unify.specs.Places.{places}
use Rattle.awk_unify.specs.Unification.{Placed, PlacedAll, Unification}
use Rattle.awk_types.specs.DataType.{DataType, types_from, uni}

-- the first of the alternatives where it joins, else what the others give
abbrev pub chosen : DataType → List DataType → Option Unification → Placed → Placed
chosen a firsts (Some j) rest =
    record { typs = j.typ ∷ firsts; kept = j.left ∷ all_same firsts; tag = 0; put = j.right }
chosen a firsts None rest =
    record { typs = a ∷ rest.typs; kept = keep ∷ rest.kept; tag = suc rest.tag; put = rest.put }

-- into the first alternative that joins, else as a new last one
abbrev pub insert : Joining → List DataType → DataType → Placed
insert join [] b = record { typs = b ∷ []; kept = []; tag = 0; put = keep }
insert join (a ∷ firsts) b = chosen a firsts (join a b) (insert join firsts b)

-- nothing is put in yet
abbrev pub start : List DataType → PlacedAll
start ts = record { typs = ts; kept = all_same ts; tags = []; puts = [] }

-- one more is put in
abbrev pub further : PlacedAll → Placed → PlacedAll
further p s =
    record {
      typs = s.typs;
      kept = each_then p.kept s.kept;
      tags = p.tags ++ s.tag ∷ [];
      puts = put_after s.kept p.tags p.puts ++ s.put ∷ [];
    }

-- one after another, each into what the earlier ones made
abbrev pub insert_all : Joining → PlacedAll → List DataType → PlacedAll
insert_all join p [] = p
insert_all join p (b ∷ bs) = insert_all join (further p (insert join p.typs b)) bs

-- the union of them
abbrev pub merged : PlacedAll → Unification
merged p =
    record {
      typ = uni (types_from p.typs);
      left = to_alternatives (places (length p.kept)) (carries_from p.kept);
      right = to_alternatives p.tags (carries_from p.puts);
    }
