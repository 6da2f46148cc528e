-- Fields that were read, one behind the other.
use Rattle.std.proofs.Common.{◌≡◌, ◌≢◌, ◌<◌, ◌+◌, ◌++◌, ℕ, refl, sym, ap, ap₂, subst, ◌∙◌, List, [], ◌∷◌, false, map, string_bytes, codes, length, take, slice_index_or, get_or, arith}
use Rattle.std.specs.Prelude.{zero, suc}
use Rattle.std.specs.List.{position_or_len, before_first, after_first, slice_split}
use Rattle.std.proofs.lemmas.Grind.{take_at_read}
use Rattle.std.proofs.lemmas.List.{append_assoc, get_or-append-add, length-append, length-map, length-take-le, map-append}
use Rattle.std.proofs.lemmas.List.Elements.{All-from_get_or}
use Rattle.std.proofs.lemmas.List.Sums.{fails_before_first}
use Rattle.std.proofs.lemmas.List.Splits.{slice_split_first, slice_split_none}
use Rattle.header_types.specs.declared.schema.Field.{Field, roll-Field, fold-roll-Field}
use Rattle.header_types.specs.declared.schema.Field.TheOpen.{Field-F}
use Rattle.header_types.specs.Fields.{Text, FieldHead, Tree, tree, no_more}
use Rattle.header_types.specs.Views.{data_type_of, entry_of, forest_of, tree_of, tree_step}
use Rattle.schema_words.specs.Spelling.{comma_before, is_comma, SpellsField, SpellsFields, forest_words, tree_words}
use Rattle.schema_words.specs.declared.fault.SchemaWordsFault.{SchemaWordsFault}
use Rattle.schema_words.specs.Faults.{PushesField, TellsNoField, TellsNoSchema}

-- a field that was made of its name and type alone
pub field_made : (y : Field-F Field) (name : Text) → string_bytes y.name ≡ name → y.metadata.items ≡ [] → y.children.items ≡ []
    → tree_of (roll-Field y) ≡ tree (record { name = name; nullable = y.nullable; data_type = data_type_of y.ty }) [] no_more
field_made y name named bare none =
    fold-roll-Field Tree tree_step y
    ∙ ap (λ n. tree (record { name = n; nullable = y.nullable; data_type = data_type_of y.ty }) (map entry_of y.metadata.items) (forest_of (map tree_of y.children.items))) named
    ∙ ap (λ e. tree (record { name = name; nullable = y.nullable; data_type = data_type_of y.ty }) (map entry_of e) (forest_of (map tree_of y.children.items))) bare
    ∙ ap (λ f. tree (record { name = name; nullable = y.nullable; data_type = data_type_of y.ty }) [] (forest_of (map tree_of f))) none

-- one field more, behind those that were read
pub spells_more : (parts : List Text) (fields : List Tree) → SpellsFields parts (forest_of fields) → (part : Text) (head : FieldHead)
    → SpellsField part head → SpellsFields (parts ++ part ∷ []) (forest_of (fields ++ tree head [] no_more ∷ []))
spells_more [] [] spells part head one = (one, refl, refl, tt)
spells_more [] (_ ∷ _) spells part head one = absurd spells
spells_more (_ ∷ _) [] spells part head one = absurd spells
spells_more (p ∷ parts) (tree h entries inside ∷ fields) spells part head one =
    (spells.0, spells.1, spells.2, spells_more parts fields spells.3 part head one)

pub spells_pushed : (parts : List Text) (fields new : List Field) (field : Field) (part : Text) (head : FieldHead)
    → SpellsFields parts (forest_of (map tree_of fields)) → SpellsField part head → tree_of field ≡ tree head [] no_more
    → new ≡ fields ++ field ∷ [] → SpellsFields (parts ++ part ∷ []) (forest_of (map tree_of new))
spells_pushed parts fields new field part head spells one is pushed =
    subst (λ (ts : List Tree). SpellsFields (parts ++ part ∷ []) (forest_of ts))
    (ap (λ t. map tree_of fields ++ t ∷ []) (sym is) ∙ sym (ap (map tree_of) pushed ∙ map-append tree_of fields (field ∷ [])))
    (spells_more parts (map tree_of fields) spells part head one)

-- ---- while the parts are read

in_middle : (past : List Text) (part : Text) (behind : List Text) → get_or (past ++ part ∷ behind) (length past) [] ≡ part
in_middle past part behind =
    subst (λ (n : ℕ). get_or (past ++ part ∷ behind) n [] ≡ part) (omega arith)
    (get_or-append-add past (part ∷ behind) 0 [])

-- the parts so far, which the fields tell
pub record ReadSoFar (words rest : Text) (fields : List Field) : Type 0 where
  pub past : List Text
  pub parts : slice_split is_comma words ≡ past ++ slice_split is_comma rest
  pub counted : length past ≡ length fields
  pub spells : SpellsFields past (forest_of (map tree_of fields))

pub none_read : (words : Text) (fields : List Field) → fields ≡ [] → ReadSoFar words words fields
none_read words fields none = record {
  past = [];
  parts = refl;
  counted = sym (ap length none);
  spells = subst (λ (it : List Field). SpellsFields [] (forest_of (map tree_of it))) (sym none) tt;
}

-- a part more, up to the next comma
pub one_read : (words rest part others : Text) (fields new : List Field) → ReadSoFar words rest fields
    → position_or_len is_comma rest < length rest → part ≡ before_first is_comma rest → others ≡ after_first is_comma rest
    → PushesField part fields new → ReadSoFar words others new
one_read words rest part others fields new far comma is_part is_others pushes = record {
  past = far.past ++ part ∷ [];
  parts = far.parts ∙ ap (λ ps. far.past ++ ps) (slice_split_first is_comma rest 0 comma
      ∙ ap₂ (λ p o. p ∷ slice_split is_comma o) (sym is_part) (sym is_others))
      ∙ sym (append_assoc far.past (part ∷ []) (slice_split is_comma others));
  counted = length-append far.past (part ∷ []) ∙ ap (λ n. n + 1) far.counted
      ∙ sym (ap length pushes.pushed ∙ length-append fields (pushes.field ∷ []));
  spells = spells_pushed far.past fields new pushes.field part pushes.head far.spells pushes.spells pushes.seen pushes.pushed;
}

-- a part that is no field
pub none_more : (words rest part : Text) (fields : List Field) (fault : SchemaWordsFault) (behind : List Text) → ReadSoFar words rest fields
    → slice_split is_comma rest ≡ part ∷ behind → TellsNoField part (length fields) fault → TellsNoSchema words fault
none_more words rest part fields fault behind far first none = record {
  place = length far.past;
  within = subst (λ (n : ℕ). length far.past < n) (sym (ap length whole ∙ length-append far.past (part ∷ behind))) (omega arith);
  no_field = subst (λ (it : Text). TellsNoField it (length far.past) fault)
      (sym (ap (λ ps. get_or ps (length far.past) []) whole ∙ in_middle far.past part behind))
      (subst (λ (n : ℕ). TellsNoField part n fault) (sym far.counted) none);
}
  where
    whole : slice_split is_comma words ≡ far.past ++ part ∷ behind
    whole = far.parts ∙ ap (λ ps. far.past ++ ps) first

-- the last part, which no comma follows
pub last_part : (rest : Text) → position_or_len is_comma rest ≡ length rest → slice_split is_comma rest ≡ rest ∷ []
last_part rest none = slice_split_none is_comma rest
    (All-from_get_or (λ b. is_comma b ≡ false) rest 0 (λ i lt. fails_before_first is_comma rest i 0 (subst (λ (n : ℕ). i < n) (sym none) lt)))

-- all parts are read
pub all_read : (words rest : Text) (fields new : List Field) → ReadSoFar words rest fields → position_or_len is_comma rest ≡ length rest
    → PushesField rest fields new → SpellsFields (slice_split is_comma words) (forest_of (map tree_of new))
all_read words rest fields new far none pushes =
    subst (λ (ps : List Text). SpellsFields ps (forest_of (map tree_of new)))
    (sym (far.parts ∙ ap (λ ps. far.past ++ ps) (last_part rest none)))
    (spells_pushed far.past fields new pushes.field rest pushes.head far.spells pushes.spells pushes.seen pushes.pushed)

-- ---- while fields are written

pub comma_behind : (place : ℕ) → place ≢ 0 → codes ", " ≡ comma_before place
comma_behind zero none = absurd (none refl)
comma_behind (suc _) some = refl

words_more : (ts : List Tree) (t : Tree)
    → forest_words (forest_of (ts ++ t ∷ [])) ≡ forest_words (forest_of ts) ++ (comma_before (length ts) ++ tree_words t)
words_more [] t = refl
words_more (u ∷ []) t = refl
words_more (u ∷ v ∷ rest) t =
    ap (λ w. tree_words u ++ (codes ", " ++ w)) (words_more (v ∷ rest) t)
    ∙ ap (λ w. tree_words u ++ w) (sym (append_assoc (codes ", ") (forest_words (forest_of (v ∷ rest))) (codes ", " ++ tree_words t)))
    ∙ sym (append_assoc (tree_words u) (codes ", " ++ forest_words (forest_of (v ∷ rest))) (codes ", " ++ tree_words t))

-- the words of one field more
pub words_pushed : (fields : List Field) (place : ℕ) (field : Field) (old next new own : Text) → place < length fields
    → field ≡ slice_index_or fields place field → old ≡ forest_words (forest_of (map tree_of (take place fields)))
    → next ≡ old ++ comma_before place → own ≡ tree_words (tree_of field) → new ≡ next ++ own
    → new ≡ forest_words (forest_of (map tree_of (take (place + 1) fields)))
words_pushed fields place field old next new own there is so_far began written ended =
    ended ∙ ap (λ t. t ++ own) began ∙ append_assoc old (comma_before place) own
    ∙ ap₂ (λ o w. o ++ (comma_before place ++ w)) so_far written
    ∙ sym (ap (λ ts. forest_words (forest_of ts)) (ap (map tree_of) taken ∙ map-append tree_of (take place fields) (field ∷ []))
    ∙ words_more (map tree_of (take place fields)) (tree_of field)
    ∙ ap (λ n. forest_words (forest_of (map tree_of (take place fields))) ++ (comma_before n ++ tree_words (tree_of field)))
    (length-map (take place fields) tree_of ∙ length-take-le place fields (omega arith)))
  where
    taken : take (place + 1) fields ≡ take place fields ++ field ∷ []
    taken = (take_at_read fields place field there).1 ∙ ap (λ x. take place fields ++ x ∷ []) (sym is)
