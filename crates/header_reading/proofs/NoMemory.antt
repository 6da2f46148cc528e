-- No fault of a text is that memory was refused.
use Rattle.std.proofs.Common.{◌≡◌, inl, inr, ℕ, zero, suc, Bool, true, false, List, Option, Some, None, Result, Err}
use Rattle.std.proofs.Common.{IfErr, subst}
use Rattle.header_types.specs.declared.fault.MetaFault.{MetaFault}
use Rattle.header_types.specs.declared.fault.MetaFault.TheVariants.{OutOfMemory, TooDeep}
use Rattle.header_types.specs.Slots.{VectorRef, SlotNumberFault, StringFault, VectorRefFault}
use Rattle.header_types.specs.TypeIds.{Parameter, parameters_of, has_timezone}
use Rattle.header_reading.specs.Faults.{EntryFault, MetadataFault, ParameterFault, TimezoneFault, ParametersFault}
use Rattle.header_reading.specs.Faults.{DataTypeFault, FieldFault, HasFieldAtDepth, ForestFault, SchemaFault}

number_none : (text : List ℕ) (table n size : ℕ) → SlotNumberFault text table n size OutOfMemory → ⊥
number_none text table n size (inl fault) = fault
number_none text table n size (inr (place, shown, fault)) = fault

string_none : (text : List ℕ) (table n : ℕ) → StringFault text table n OutOfMemory → ⊥
string_none text table n (inl fault) = number_none text table n 4 fault
string_none text table n (inr (target, shown, fault)) = fault

vector_none : (text : List ℕ) (table n size : ℕ) → VectorRefFault text table n size OutOfMemory → ⊥
vector_none text table n size (inl fault) = number_none text table n 4 fault
vector_none text table n size (inr (target, shown, fault)) = fault

entry_none : (text : List ℕ) (table : ℕ) → EntryFault text table OutOfMemory → ⊥
entry_none text table (inl fault) = string_none text table 0 fault
entry_none text table (inr fault) = string_none text table 1 fault

metadata_none : (text : List ℕ) (table n : ℕ) → MetadataFault text table n OutOfMemory → ⊥
metadata_none text table n (inl fault) = vector_none text table n 4 fault
metadata_none text table n (inr (vector, shown, (i, entry, there, refers, fault))) = entry_none text entry fault

parameter_none : (text : List ℕ) (table n : ℕ) (p : Option Parameter) → ParameterFault text table n p OutOfMemory → ⊥
parameter_none text table n None fault = fault
parameter_none text table n (Some p) (inl fault) = number_none text table 3 4 fault
parameter_none text table n (Some p) (inr (type, shown, fault)) = number_none text type n p.size fault

timezone_none : (text : List ℕ) (table : ℕ) (has : Bool) → TimezoneFault text table has OutOfMemory → ⊥
timezone_none text table false fault = fault
timezone_none text table true (inl fault) = number_none text table 3 4 fault
timezone_none text table true (inr (type, shown, fault)) = string_none text type 1 fault

parameters_none : (text : List ℕ) (table type_id : ℕ) → ParametersFault text table type_id OutOfMemory → ⊥
parameters_none text table type_id (inl fault) = parameter_none text table 0 (parameters_of type_id).first fault
parameters_none text table type_id (inr (inl fault)) = parameter_none text table 1 (parameters_of type_id).second fault
parameters_none text table type_id (inr (inr (inl fault))) =
    parameter_none text table 2 (parameters_of type_id).third fault
parameters_none text table type_id (inr (inr (inr fault))) = timezone_none text table (has_timezone type_id) fault

data_type_none : (text : List ℕ) (table : ℕ) → DataTypeFault text table OutOfMemory → ⊥
data_type_none text table (inl fault) = number_none text table 2 1 fault
data_type_none text table (inr (type_id, shown, (inl fault))) = parameters_none text table type_id fault
data_type_none text table (inr (type_id, shown, (inr fault))) = fault

field_fault_none : (text : List ℕ) (table : ℕ) → FieldFault text table OutOfMemory → ⊥
field_fault_none text table (inl fault) = string_none text table 0 fault
field_fault_none text table (inr (inl fault)) = number_none text table 1 1 fault
field_fault_none text table (inr (inr (inl fault))) = data_type_none text table fault
field_fault_none text table (inr (inr (inr (inl fault)))) = fault
field_fault_none text table (inr (inr (inr (inr (inl fault))))) = vector_none text table 5 4 fault
field_fault_none text table (inr (inr (inr (inr (inr (inl fault)))))) = metadata_none text table 6 fault
field_fault_none text table (inr (inr (inr (inr (inr (inr fault)))))) = fault

below_none : (text : List ℕ) (levels table : ℕ)
    → HasFieldAtDepth text levels table (λ field. FieldFault text field OutOfMemory) → ⊥
below_none text zero table fault = field_fault_none text table fault
below_none text (suc levels) table (child, is, below) = below_none text levels child below

forest_none : (text : List ℕ) (levels : ℕ) (vector : VectorRef) → ForestFault text levels vector OutOfMemory → ⊥
forest_none text levels vector (table, level, element, inl (within, below)) = below_none text level table below
forest_none text levels vector (table, level, element, inr (deep, below)) = let no : OutOfMemory ≡ TooDeep = deep in cc

schema_none : (text : List ℕ) (table : ℕ) → SchemaFault text table OutOfMemory → ⊥
schema_none text table (inl fault) = number_none text table 0 2 fault
schema_none text table (inr (inl fault)) = vector_none text table 1 4 fault
schema_none text table (inr (inr (inl (vector, shown, fault)))) = forest_none text 16 vector fault
schema_none text table (inr (inr (inr (inl fault)))) = metadata_none text table 2 fault
schema_none text table (inr (inr (inr (inr fault)))) = fault

-- a fault of a schema is none of memory
pub no_memory_fault : {A : Type 0} (text : List ℕ) (table : ℕ) (r : Result A MetaFault)
    → IfErr r (SchemaFault text table) → r ≡ Err OutOfMemory → ⊥
no_memory_fault text table r fault is = schema_none text table (subst (λ k. IfErr k (SchemaFault text table)) is fault)
