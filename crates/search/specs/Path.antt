-- The path as a whole: what the work words hold of the tables, the valuation, the store and the frames, and what is due. Assumes nothing.
use Rattle.std.specs.Prelude.{ℕ, suc, ◌+◌, ◌≤◌, ◌<◌, ◌≡◌, List, [], ◌∷◌, length, get_or}
use Rattle.std.proofs.Math.Option.{some as just}
use Rattle.specification.specs.declared.Setting.{Setting}
use Rattle.specification.specs.Lines.{Declared, cells}
use Rattle.specification.specs.Value.{Valuation}
use Rattle.specification.specs.WellFormed.{OkProcedures, Valid}
use Rattle.specification.specs.Run.{Conditions, conditions, Run}
use Rattle.tables.specs.Layout.{token_slot, node_slot, proc_at, max_cells, max_arrays, max_procs, max_locals, max_path}
use Rattle.tables.specs.Kept.{SameTokens}
use Rattle.sheet.specs.Tables.{Words}
use Rattle.sheet.specs.Held.{Holds, ArraysAt, RangesAt, BodyAt}
use Rattle.specification.specs.Lines.{procedure_of}
use Rattle.search.specs.Marks.{marks_in, Marks}
use Rattle.tables.specs.Frames.{argument_slot, back_at, call_at, tags_at}
use Rattle.tables.specs.Layout.{last_at}
use Rattle.tables.specs.Leaves.{Leaves, failure_place, success_place, error_place, kind_at, token_at}
use Rattle.plan.specs.Next.{Next, back, place_of, Plain}
use Rattle.plan.specs.Planned.{FormulaPlanned}
use Rattle.terms.specs.Environment.{Calls, Results, flag_of}
use Rattle.search.specs.Store.{Call, Store}
use Rattle.search.specs.Frame.{What, the, success, failure, error, Frame, here, below, len, top_of, site_in, store_in}
use Rattle.search.specs.Pend.{Pend}
use Rattle.search.specs.Records.{Stack}

-- ---- what a search is about: the planned tables at entry, the sheet's declarations, the setting, the size of the output, and the run's result

pub record World : Type 0 where
  pub tables : Words
  pub declared : Declared
  pub setting : Setting
  pub size : ℕ
  pub result : Run

abbrev pub conditions_of : World → Conditions
conditions_of c = conditions c.declared c.setting c.size

-- ---- procedures

-- the formula of procedure K stands in the table with its plan, and returns
pub record Body (c : World) (K : ℕ) : Type 0 where
  pub held : BodyAt c.tables K (procedure_of c.declared K).formula
  pub planned : FormulaPlanned c.tables (record { number = K; around = suc K }) (proc_at c.tables K) (procedure_of c.declared K).formula (back K)

pub record Procedures (c : World) (w : Words) : Type 0 where
  pub none : c.declared.parameters ≡ 0
  pub few : length c.declared.procedures ≤ max_procs
  pub ok : OkProcedures c.declared
  pub bodies : (K : ℕ) → K < length c.declared.procedures → Body c K
  pub same : (K : ℕ) → K < max_procs → proc_at w K ≡ proc_at c.tables K

-- ---- the store

-- the frame of a call's procedure
pub record Framed (c : World) (w : Words) (C : Call) : Type 0 where
  pub calls : Calls c.declared c.tables C.token C.level C.around
  pub plain : Plain C.back
  pub back : back_at w C.level.number ≡ place_of C.back
  pub token : call_at w C.level.number ≡ token_slot C.token
  pub results : Results c.declared C.around C.level (tags_at w C.level.number) (λ n. get_or w (argument_slot C.level.number n + 1) 0)
  pub flags : (n : ℕ) → n < length C.level.terms → get_or w (argument_slot C.level.number n) 0 ≡ flag_of (tags_at w C.level.number) n

pub record Stored (c : World) (w : Words) (σ : Store) : Type 0 where
  pub lasts : (l : ℕ) → l < max_locals → last_at w l ≡ σ.last l
  pub calls : (K : ℕ) (C : Call) → σ.calls K ≡ just C → (C.level.number ≡ K) × (K < max_procs) × Framed c w C

-- ---- the path

-- α is the valuation below the topmost frame, and so on down
abbrev pub Chain : Declared → Valuation → List Frame → Type 0
Chain D α [] = Unit {0}
Chain D α (f ∷ fr) = (α ≡ below f) × Valid D (here f) × Chain D (here f) fr

-- what stays the same in a whole search
pub record Tables (c : World) (w : Words) : Type 0 where
  pub size : node_slot c.setting.path ≤ length w
  pub limit : c.setting.path ≤ max_path
  pub tokens : SameTokens c.tables w
  pub arrays : ArraysAt w c.declared
  pub ranges : RangesAt w c.declared
  pub cells : cells c.declared ≤ max_cells
  pub few : length c.declared.arrays ≤ max_arrays
  pub leaves : Leaves w
  pub procedures : Procedures c w

-- records that end at the word `top`, of at most as many nodes as the path limit
pub record Path (c : World) (w : Words) (top : ℕ) (α : Valuation) (fr : List Frame) : Type 0 where
  pub tables : Tables c w
  pub ends : top ≡ top_of fr
  pub inside : len fr ≤ c.setting.path
  pub stack : Stack c.declared c.tables w fr
  pub chain : Chain c.declared α fr
  pub holds : Holds w α
  pub marks : Marks w α (marks_in c.declared (site_in fr).marks)
  pub stored : Stored c w (store_in fr)
  pub valid : Valid c.declared α

-- ---- what is due

-- the place of a list: what comes next
pub record ListDue (c : World) (σ : Store) (α : Valuation) (due : ℕ) (Rest : ℕ → Next → Type 0) : Type 0 where
  pub m : ℕ
  pub next : Next
  pub place : due ≡ place_of next
  pub rest : Rest m next

abbrev pub Job : World → Words → Store → Valuation → ℕ → What → Type 0
Job c w σ α due (the is) = ListDue c σ α due (λ m n. Pend c.declared c.tables σ α m n is)
Job c w σ α due success = due ≡ success_place
Job c w σ α due failure = due ≡ failure_place
Job c w σ α due (error κ tok) = (due ≡ error_place) × (kind_at w ≡ κ) × (token_at w ≡ tok)
