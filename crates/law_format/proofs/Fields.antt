-- The fields of records: a mode or a kind is named by its number, what a mode leaves unused is 0, an item keeps its kind, and operands come in fours.
-- Assumes nothing.
use Prim.Native.Nat.{ℕ}
use mathlib.Core.Path.{◌≡◌, refl}
use mathlib.Core.Bool.{true, ◌&&◌}
use mathlib.Core.List.{List, [], ◌∷◌}
use mathlib.Core.Option.{some}
use lib.IntN.{ℤ}
use Rattle.law_format.proofs.Types.{FourPlaced, AddressMode, MiddleMode, DataKind, Shape}
use Rattle.format.specs.declared.instruction.AddressMode.TheVariants as A
use Rattle.format.specs.declared.instruction.MiddleMode.TheVariants as M
use Rattle.format.specs.declared.module.DataKind.TheVariants as K
use Rattle.format.specs.declared.module.Shape.TheVariants as S
use Rattle.format.specs.Records.{mode_of, mode_number, by_mode, middle_of, middle_number, by_middle, kind_of, kind_number}
use Rattle.format.specs.Sections.{item_of}
use Rattle.format.specs.WellFormed.{is_zero}

pub mode_back : (mode : AddressMode) → mode_of (mode_number mode) ≡ some mode
mode_back A.OffsetIndirectMp = refl
mode_back A.OffsetIndirectFp = refl
mode_back A.Immediate = refl
mode_back A.None = refl
mode_back A.OffsetDoubleIndirectMp = refl
mode_back A.OffsetDoubleIndirectFp = refl

pub middle_mode_back : (mode : MiddleMode) → middle_of (middle_number mode) ≡ some mode
middle_mode_back M.None = refl
middle_mode_back M.SmallImmediate = refl
middle_mode_back M.SmallOffsetFp = refl
middle_mode_back M.SmallOffsetMp = refl

pub kind_back : (kind : DataKind) → kind_of (kind_number kind) ≡ some kind
kind_back K.Bytes = refl
kind_back K.Words = refl
kind_back K.String = refl
kind_back K.Reals = refl
kind_back K.Array = refl
kind_back K.SetArray = refl
kind_back K.Restore = refl
kind_back K.Bigs = refl

-- unused registers are 0
abbrev pub Unused : AddressMode → ℤ → ℤ → Type 0
Unused mode a b = by_mode mode (is_zero a && is_zero b) (is_zero b) true ≡ true

abbrev pub MiddleUnused : MiddleMode → ℤ → Type 0
MiddleUnused mode a = by_middle mode (is_zero a) true ≡ true

pub made_kind : (kind : DataKind) (offset : ℤ) (n start : ℕ) (s : Shape) → (item_of s kind offset n start).kind ≡ kind
made_kind kind offset n start S.Bytes = refl
made_kind kind offset n start (S.Words k) = refl
made_kind kind offset n start (S.Single k) = refl
made_kind kind offset n start S.Nothing = refl

abbrev pub four_values : FourPlaced → List ℤ
four_values f = f.first.value ∷ f.second.value ∷ f.third.value ∷ f.fourth.value ∷ []
