-- The command line as clap sees it: one command of words by place.
use Rattle.std.specs.Prelude.{◌≡◌, ℕ, true, List, [], ◌∷◌, Some, codes, option_map, unwrap_or}
use Rattle.clap.specs.Lexer.{usize_max}
use Rattle.clap.specs.Walk.{Rule}
use Rattle.clap.specs.Matches.{first_value, found_of, matched_of, raw_values}
use Rattle.clap.specs.Simple.{App, new_rule, new_shape, with_rule}
use Rattle.clap.specs.declared.parser.matches.ArgMatches.{ArgMatches}

-- one word each, which must stand
abbrev pub repository_place : Rule
repository_place = record (new_rule (codes "repository")) { required = true }

abbrev pub command_place : Rule
command_place = record (new_rule (codes "command")) { required = true }

-- all words behind them
abbrev pub words_place : Rule
words_place = record (new_rule (codes "words")) { range = Some (record { start_inclusive = 0; end_inclusive = usize_max }) }

-- a command without places, of whose words none is a flag, and the first one isn't the program's name
abbrev pub bare_line : App
bare_line = record {
  top = record (new_shape (codes "fossil")) {
    no_binary_name = true;
    disable_help_flag = true;
    disable_help_subcommand = true;
    disable_version_flag = true;
  };
  subs = [];
}

-- the places in order
abbrev pub line : App
line = with_rule (with_rule (with_rule bare_line repository_place) command_place) words_place

-- the matches have each word in its place
pub record HasPlaces (words : List (List ℕ)) (matches : ArgMatches) : Type 0 where
  pub repository : List ℕ
  pub command : List ℕ
  pub rest : List (List ℕ)
  pub whole : words ≡ repository ∷ command ∷ rest
  pub at_repository : first_value (found_of matches) (codes "repository") ≡ Some repository
  pub at_command : first_value (found_of matches) (codes "command") ≡ Some command
  pub at_words : unwrap_or (option_map raw_values (matched_of (found_of matches) (codes "words"))) [] ≡ rest
