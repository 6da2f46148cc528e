-- What a parse found for a command, by the rows of its matches.
use Rattle.std.proofs.Common.{◌≡◌, List, Option, Some, None, option_map, refl, sym, ap, ap₂, ◌∙◌}
use Rattle.clap.specs.declared.parser.matches.ArgMatches.{ArgMatches}
use Rattle.clap.specs.declared.parser.matches.Found.{Found}
use Rattle.clap.specs.Words.{Row, Text, first_of, first_value, rows_of, subcommand_name_of, subcommand_rows_of}
use Rattle.clap.proofs.WalkLemmas.{first_value-rows}
use Rattle.command_line.specs.CommandLine.{asked_by, asks, command_named}
use Rattle.command_line.proofs.Calls.{named_by}

mapped_twice : {A B C : Type 0} (f : B → C) (g : A → B) (o : Option A) → option_map f (option_map g o) ≡ option_map (λ x. f (g x)) o
mapped_twice f g None = refl
mapped_twice f g (Some x) = refl

name_is : (m : ArgMatches) → option_map (λ (p : Text × List Row). p.0) (subcommand_rows_of m) ≡ subcommand_name_of m
name_is m = mapped_twice _ _ _

some_is : {A : Type 0} (x y : A) → Some x ≡ Some y → x ≡ y
some_is x y e = cc

both_are : (o : Option (Text × List Row)) (name : Text) (rows : List Row) → Some name ≡ option_map (λ p. p.0) o → Some rows ≡ option_map (λ p. p.1) o → Some (name, rows) ≡ o
both_are None name rows named found = absurd cc
both_are (Some p) name rows named found = ap₂ (λ (n : Text) (rs : List Row). Some (n, rs)) (some_is name p.0 named) (some_is rows p.1 found)

-- the values that were found for the command of this name ask for what the matches ask for
pub found_asks : (m : ArgMatches) (name : Text) (f : Found) → Some name ≡ subcommand_name_of m → Some (rows_of f) ≡ option_map (λ (p : Text × List Row). p.1) (subcommand_rows_of m)
    → asks (command_named name) (first_value f) ≡ asked_by m
found_asks m name f named found =
    (λ i. asks (command_named name) (λ id. first_value-rows f id i))
    ∙ ap named_by (both_are (subcommand_rows_of m) name (rows_of f) (named ∙ sym (name_is m)) found)
