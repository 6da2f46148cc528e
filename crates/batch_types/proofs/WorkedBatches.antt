-- Batches worked out by hand are laid out as the definitions say, and broken ones are told by their fault.
use Rattle.std.proofs.Common.{◌≡◌, ◌⊎◌, inl, inr, refl, ap, ℕ, zero, suc, ◌+◌, ◌<◌, ◌≤◌, ℤ, pos, ◌≤ℤ◌, nat_abs, List, [], ◌∷◌, length, get_or, arith, subst}
use Rattle.std.specs.List.{filter}
use Rattle.std.specs.Str.{IsUtf8}
use Rattle.std.proofs.lemmas.Bool.{cases_lt}
use Rattle.std.proofs.lemmas.Int.{ints}
use Rattle.header_types.specs.Header.{Head}
use Rattle.batch_types.specs.declared.fault.BatchFault.TheVariants as fault
use Rattle.batch_types.specs.Layouts.{null_layout, bytes_layout, utf8_layout, list_layout}
use Rattle.batch_types.specs.Laid.{Range, laid, no_column, column_then, LaidColumns}
use Rattle.batch_types.specs.Placed.{buffer_at, offset_at, is_valid, value_bytes}
use Rattle.batch_types.specs.Rules.{IsInside, HasBuffers, DoRise, OffsetsRise, AreUtf8}
use Rattle.batch_types.specs.LaysOut.{rows_limit, values_limit, HasRowsWithin, HasBody, LaysOut, IsFaultOf}
use Rattle.batch_types.specs.Examples.{int8_table, int8_rows, int8_head, int8_body, miscounted_head, texts_table, texts_rows, texts_head, texts_body, no_texts_table, falling_head, falling_body, nulls_table, nulls_rows, crowded_head}

-- ---- short words

-- a number of so few that each can be named
abbrev pub AllBelow : (ℕ → Type 0) → ℕ → Type 0
AllBelow P zero = Unit {0}
AllBelow P (suc n) = AllBelow P n × P n

one_more : (P : ℕ → Type 0) (n : ℕ) → ((k : ℕ) → k < n → P k) → P n → (k : ℕ) → k < suc n → P k
one_more P n all last k within = either (cases_lt k n)
  where
    either : (k < n) ⊎ (n ≤ k) → P k
    either (inl below) = all k below
    either (inr past) = let same : n ≡ k = omega arith in subst P same last

pub all_below : (P : ℕ → Type 0) (n : ℕ) → AllBelow P n → (k : ℕ) → k < n → P k
all_below P zero all = λ k within. absurd (omega arith)
all_below P (suc n) all = one_more P n (all_below P n all.0) all.1

pub few_of : (head : Head) (rows n : ℕ) → head.length ≡ pos rows → rows ≤ rows_limit → length head.nodes ≡ n
    → AllBelow (λ k. (pos 0 ≤ℤ (get_or head.nodes k (pos 0, pos 0)).0) × ((get_or head.nodes k (pos 0, pos 0)).0 ≤ℤ pos values_limit)) n
    → HasRowsWithin head
few_of head rows n is few all nodes = record {
  counted = omega (arith, ints, is);
  few = omega (arith, ints, is, few);
  nodes_counted = λ k within. (all_below _ n nodes k (subst (λ m. k < m) all within)).0;
  nodes_few = λ k within. (all_below _ n nodes k (subst (λ m. k < m) all within)).1;
}

pub range_within : (bytes begin count : ℕ) → begin + count ≤ bytes → IsInside bytes (pos begin, pos count)
range_within bytes begin count ends = record { begins = omega (arith, ints); counted = omega (arith, ints); ends = omega (arith, ints) }

pub body_there : (head : Head) (body : List ℕ) (n : ℕ) → head.body_length ≡ pos n → n ≤ length body → HasBody head body
body_there head body n is there = record { counted = omega (arith, ints, is); there = omega (arith, ints, is) }

pub below : (a b : ℕ) → a ≤ b → pos a ≤ℤ pos b
below a b within = omega (arith, ints)

pub some_node : (a b : ℕ) → a ≤ values_limit → (pos 0 ≤ℤ pos a) × (pos a ≤ℤ pos values_limit)
some_node a b few = (omega (arith, ints), omega (arith, ints, few))

-- ---- Int of eight bits: 1, null, 3

abbrev int8_ranges : List Range
int8_ranges = (pos 0, pos 1) ∷ (pos 8, pos 3) ∷ []

abbrev int8_columns : ℤ → LaidColumns
int8_columns nulls = column_then (laid (bytes_layout 1) (pos 3, nulls) int8_ranges no_column) no_column

int8_buffers : (nulls : ℤ) → HasBuffers int8_body (bytes_layout 1) (pos 3, nulls) int8_ranges
int8_buffers nulls = record {
  within = all_below (λ n. IsInside 16 (get_or int8_ranges n (pos 0, pos 0))) 2 ((tt, range_within 16 0 1 (omega arith)), range_within 16 8 3 (omega arith));
  long_enough = (inr (omega arith), omega arith);
}

pub int8_laid_out : LaysOut int8_table int8_head int8_body int8_rows
int8_laid_out = record {
  head_kept = (refl, (few_of int8_head 3 1 refl (omega arith) refl (tt, some_node 3 1 (omega arith)), (refl, (refl, (body_there int8_head int8_body 16 refl (omega arith), tt)))));
  columns = int8_columns (pos 1);
  columns_are = record { of_schema = ((refl, refl, tt), tt); nodes = refl; buffers = refl };
  sound = (((int8_buffers (pos 1), (refl, (tt, (omega arith, (tt, tt))))), tt), tt);
  count = refl;
  cells = refl;
}

pub miscounted : IsFaultOf int8_table miscounted_head int8_body fault.NullCount
miscounted =
    inr (
      (refl, (few_of miscounted_head 3 1 refl (omega arith) refl (tt, some_node 3 2 (omega arith)), (refl, (refl, (body_there miscounted_head int8_body 16 refl (omega arith), tt))))),
      (
        int8_columns (pos 2),
        record { of_schema = ((refl, refl, tt), tt); nodes = refl; buffers = refl },
        inl (inl (inr (int8_buffers (pos 2), inl (refl, λ same. two_is_not_one (ap nat_abs same))))),
      ),
    )
  where
    two_is_not_one : suc 1 ≡ suc 0 → ⊥
    two_is_not_one same = omega arith

-- ---- three rows of as many nulls as a node may have

pub crowded_laid_out : LaysOut nulls_table crowded_head [] nulls_rows
crowded_laid_out = record {
  head_kept = (refl, (few_of crowded_head 3 1 refl (omega arith) refl (tt, some_node 16777216 3 (omega arith)), (refl, (refl, (body_there crowded_head [] 0 refl (omega arith), tt)))));
  columns = column_then (laid null_layout (pos 16777216, pos 3) [] no_column) no_column;
  columns_are = record { of_schema = ((refl, refl, tt), tt); nodes = refl; buffers = refl };
  sound = (((record { within = λ n below. absurd (omega (arith, below)); long_enough = tt }, (tt, (tt, (omega arith, (tt, tt))))), tt), tt);
  count = refl;
  cells = refl;
}

-- ---- List of Utf8: ["a", "bc"] and []

abbrev outer_ranges : List Range
outer_ranges = (pos 0, pos 0) ∷ (pos 0, pos 12) ∷ []

abbrev inner_ranges : List Range
inner_ranges = (pos 16, pos 0) ∷ (pos 16, pos 32) ∷ (pos 48, pos 5) ∷ []

abbrev texts_inside : LaidColumns
texts_inside = column_then (laid (utf8_layout 4) (pos 7, pos 0) inner_ranges no_column) no_column

outer_buffers : HasBuffers texts_body (list_layout 4) (pos 2, pos 0) outer_ranges
outer_buffers = record {
  within = all_below (λ n. IsInside 56 (get_or outer_ranges n (pos 0, pos 0))) 2 ((tt, range_within 56 0 0 (omega arith)), range_within 56 0 12 (omega arith));
  long_enough = (inl (refl, refl), inr (omega arith));
}

inner_buffers : HasBuffers texts_body (utf8_layout 4) (pos 7, pos 0) inner_ranges
inner_buffers = record {
  within = all_below (λ n. IsInside 56 (get_or inner_ranges n (pos 0, pos 0))) 3
      (((tt, range_within 56 16 0 (omega arith)), range_within 56 16 32 (omega arith)), range_within 56 48 5 (omega arith));
  long_enough = (inl (refl, refl), inr (omega arith));
}

outer_offsets : DoRise 4 (buffer_at texts_body outer_ranges 1) 2 7
outer_offsets = record {
  begins = below 0 4 (omega arith);
  rises = all_below (λ j. offset_at 4 (buffer_at texts_body outer_ranges 1) j ≤ℤ offset_at 4 (buffer_at texts_body outer_ranges 1) (j + 1)) 2
      ((tt, below 4 6 (omega arith)), below 6 6 (omega arith));
  ends = below 6 7 (omega arith);
}

inner_offsets : DoRise 4 (buffer_at texts_body inner_ranges 1) 7 5
inner_offsets = record {
  begins = below 0 0 (omega arith);
  rises = all_below (λ j. offset_at 4 (buffer_at texts_body inner_ranges 1) j ≤ℤ offset_at 4 (buffer_at texts_body inner_ranges 1) (j + 1)) 7 (
    (
      (((((tt, below 0 0 (omega arith)), below 0 0 (omega arith)), below 0 0 (omega arith)), below 0 0 (omega arith)), below 0 1 (omega arith)),
      below 1 3 (omega arith),
    ),
    below 3 5 (omega arith),
  );
  ends = below 5 5 (omega arith);
}

inner_texts : AreUtf8 texts_body (utf8_layout 4) inner_ranges (4 ∷ 5 ∷ [])
unfolding lib.Utf8.encode
inner_texts =
    all_below
    (λ k. IsUtf8 (value_bytes 4 (buffer_at texts_body inner_ranges 1) (buffer_at texts_body inner_ranges 2)
    (get_or (filter (is_valid (utf8_layout 4) (buffer_at texts_body inner_ranges 0)) (4 ∷ 5 ∷ [])) k 0))) 2
    ((tt, (97 ∷ [], (refl, refl))), (98 ∷ 99 ∷ [], (refl, refl)))

pub texts_laid_out : LaysOut texts_table texts_head texts_body texts_rows
texts_laid_out = record {
  head_kept = (
    refl,
    (
      few_of texts_head 2 2 refl (omega arith) refl ((tt, some_node 2 0 (omega arith)), some_node 7 0 (omega arith)),
      (refl, (refl, (body_there texts_head texts_body 56 refl (omega arith), tt))),
    ),
  );
  columns = column_then (laid (list_layout 4) (pos 2, pos 0) outer_ranges texts_inside) no_column;
  columns_are = record { of_schema = ((refl, refl, ((refl, refl, tt), tt)), tt); nodes = refl; buffers = refl };
  sound = (
    (
      (outer_buffers, (refl, (inr outer_offsets, (omega arith, (tt, tt))))),
      (((inner_buffers, (refl, (inr inner_offsets, (omega arith, (inner_texts, tt))))), tt), tt),
    ),
    tt,
  );
  count = refl;
  cells = refl;
}

-- ---- offsets 0, 2, 1

abbrev falling_ranges : List Range
falling_ranges = (pos 0, pos 0) ∷ (pos 0, pos 12) ∷ (pos 16, pos 2) ∷ []

falling_buffers : HasBuffers falling_body (utf8_layout 4) (pos 2, pos 0) falling_ranges
falling_buffers = record {
  within = all_below (λ n. IsInside 24 (get_or falling_ranges n (pos 0, pos 0))) 3
      (((tt, range_within 24 0 0 (omega arith)), range_within 24 0 12 (omega arith)), range_within 24 16 2 (omega arith));
  long_enough = (inl (refl, refl), inr (omega arith));
}

do_not_rise : OffsetsRise 4 (buffer_at falling_body falling_ranges 1) 2 2 → ⊥
do_not_rise (inl none) = absurd (not_empty (ap length none))
  where
    not_empty : length (buffer_at falling_body falling_ranges 1) ≡ 0 → ⊥
    not_empty same = let twelve : suc 11 ≡ 0 = same in omega arith
do_not_rise (inr rise) =
    let falls : pos 2 ≤ℤ pos 1 = rise.rises 1 (omega arith) in
    omega (arith, ints, falls)

pub falling : IsFaultOf no_texts_table falling_head falling_body fault.OffsetsFall
falling =
    inr (
      (refl, (few_of falling_head 2 1 refl (omega arith) refl (tt, some_node 2 0 (omega arith)), (refl, (refl, (body_there falling_head falling_body 24 refl (omega arith), tt))))),
      (
        column_then (laid (utf8_layout 4) (pos 2, pos 0) falling_ranges no_column) no_column,
        record { of_schema = ((refl, refl, tt), tt); nodes = refl; buffers = refl },
        inl (inl (inr (falling_buffers, inr (refl, inl (refl, do_not_rise))))),
      ),
    )
