-- The types of what is picked, and which faults are told.
use Rattle.std.specs.Prelude.{◌≡◌, ℕ, Bool, true, false, List, [], ◌∷◌, map, Option, Some, None}
use Rattle.std.specs.Prelude.{refl, if◌then◌else◌}
use Rattle.std.specs.List.{list_any}
use Rattle.std.proofs.Common.{arith, ap, sym}
use Rattle.awk_types.specs.DataType.{DataType, unknown, leaf, var, reg, rec, tup, opt, uni}
use Rattle.awk_types.specs.Faults.{wrong_unless}
use Rattle.awk_types.specs.Simple.{is_option, simple, simple_value}
use Rattle.awk_types.specs.Value.{Value}
use Rattle.awk_types.specs.declared.fault.Fault.{Fault}
use Rattle.awk_types.specs.declared.fault.Fault.TheVariants.{Index}
use Rattle.awk_types.specs.declared.primitive.Primitive.TheVariants.{I64}
use Rattle.awk_types.proofs.SimpleLaws.{option_over}
use Rattle.awk_select.specs.Picks.{picked_type, is_index, is_outside, lengths_refused}
use Rattle.awk_select.specs.Picks.{index_refused}

-- numbers are simple
pub kept_numbers : (vs : List Value) → map (simple_value (leaf I64)) vs ≡ vs
kept_numbers [] = refl
kept_numbers (v ∷ vs) = ap (λ ws. v ∷ ws) (kept_numbers vs)

-- ---- refusals

pub allowed : (b : Bool) → wrong_unless b ≡ None → b ≡ true
allowed true e = refl
allowed false e = cc

pub inside : (n : ℕ) (ws : List Value) → index_refused n ws ≡ None
    → list_any (is_outside n) ws ≡ false
inside n ws e = by (list_any (is_outside n) ws) e
  where
    by : (b : Bool) → ◌≡◌ {A = Option Fault} (if b then Some Index else None) None → b ≡ false
    by true h = cc
    by false h = refl

pub not_outside : (n : ℕ) (ws : List Value) → list_any (is_outside n) ws ≡ false
    → index_refused n ws ≡ None
not_outside n ws e = ap (λ (b : Bool). if b then Some Index else None) e

pub same_length : (n m : ℕ) → lengths_refused n m ≡ None → n ≡ m
same_length n m e = grind arith

-- ---- numbers, optional where a mask is

places_by : (b : Bool) → is_index (if b then simple (opt (leaf I64)) else leaf I64) ≡ true
places_by true = refl
places_by false = refl

pub places_index : (u : DataType) → is_index (picked_type u (leaf I64)) ≡ true
places_index u = places_by (is_option u)

picked_by : (b : Bool) (t : DataType)
    → picked_type (if b then simple (opt (leaf I64)) else leaf I64) t
    ≡ (if b then simple (opt t) else t)
picked_by true t = refl
picked_by false t = refl

pub picked_type-places : (u t : DataType)
    → picked_type (picked_type u (leaf I64)) t ≡ picked_type u t
picked_type-places u t = picked_by (is_option u) t

-- ---- an index that is picked

index_option : (u : DataType) → is_index u ≡ true → is_index (simple (opt u)) ≡ true
index_option unknown h = refl
index_option (leaf p) h = h
index_option (var t) h = cc
index_option (reg n t) h = cc
index_option (rec ns ts) h = cc
index_option (tup ts) h = cc
index_option (uni ts) h = cc
index_option (opt unknown) h = refl
index_option (opt (leaf p)) h = h
index_option (opt (var t)) h = cc
index_option (opt (reg n t)) h = cc
index_option (opt (rec ns ts)) h = cc
index_option (opt (tup ts)) h = cc
index_option (opt (opt t)) h = cc
index_option (opt (uni ts)) h = cc

index_by : (b : Bool) (u : DataType) → is_index u ≡ true
    → is_index (if b then simple (opt u) else u) ≡ true
index_by true u h = index_option u h
index_by false u h = h

pub picked_index : (w u : DataType) → is_index u ≡ true → is_index (picked_type w u) ≡ true
picked_index w u h = index_by (is_option w) u h

types_by : (a b : Bool) (t u : DataType) → is_option u ≡ b
    → (if a then simple (opt (if b then simple (opt t) else t))
    else if b then simple (opt t) else t)
    ≡ (if is_option (if a then simple (opt u) else u) then simple (opt t) else t)
types_by true true t u e = option_over (opt t)
types_by true false t u e = refl
types_by false b t u e = ap (λ (c : Bool). if c then simple (opt t) else t) (sym e)

pub picked_type-picked : (t u w : DataType)
    → picked_type w (picked_type u t) ≡ picked_type (picked_type w u) t
picked_type-picked t u w = types_by (is_option w) (is_option u) t u refl
