-- To unfold one of these is to unfold all the definitions that it stands for: a table's theorem names those that it runs. Assumes nothing.
use Rattle.specification.specs.Bytes.{class_of, class_number, is_in, in_number, in_token, run, same, begins}
use Rattle.specification.specs.Number.{all_digits, decimal, well_formed, natural, integer, digits, printℕ, printℤ}
use Rattle.specification.specs.Parser.{mark, exactly, taken}
use Rattle.specification.specs.Lines.{index, count, value, line, lengths, arrays_line, range, ranges, ranges_line, contains, sum, array_of, cells, first_of, length_of, is_declared, cell_of, range_number, range_of, in_range}
use Rattle.specification.specs.Given.{scalar_name, element_name, name, item, items, given_line}
use Rattle.specification.specs.Words.{common_words, older_division, division, own_words, words, name_of, find, word_of, number_of}
use Rattle.specification.specs.Fill.{fill_term, fill_terms, fill}
use Rattle.specification.specs.Formula.{token, has, binder, procedure, term, arguments, above, empty_range, formula}
use Rattle.specification.specs.Sheet.{procedure_line, procedure_lines, sheet, read_with}
use Rattle.specification.specs.Place.{put}
use Rattle.specification.specs.Arithmetic.{fit, compute, test}
use Rattle.specification.specs.Value.{pair_of, element_side, side}
use Rattle.specification.specs.Outside.{binds, some_below, gave}
use Rattle.specification.specs.Tree.{joined, verdict, equate, compared, bounded, sons, rounds, enquire, done_inside, grow, tree_of}
use Rattle.specification.specs.Visits.{◌then◌, each, inside, visits}
use Rattle.specification.specs.Listing.{scalar_names, element_names, array_names, cell_names, valued, block_of, head_lines, cell_lines, block_lines, label_text, lines_text, block_text, listing_text}
use Rattle.specification.specs.Run.{block, arrive, visit, scan}
use Rattle.specification.specs.Outcome.{start, root_of, visits_of, run_of, call_with}
use Rattle.specification.specs.Printed.{closing, printed, box}
use Rattle.specification.specs.Text.{led, parted, op_text, rel_text, formula_word_text, term_word_text, word_text, term_words, argument_words, formula_words, ranges_text, item_text, procedure_text, procedures_text, head_text, text_in}
use Rattle.specification.specs.Tidy.{has_empty, any_empty, has_empty_range, dropped, numbered, tokens_before, tidied_procedures, tidied}
use Rattle.specification.specs.Moves.{is_everything, narrow_at, rounds_down, is_rounding, rounding_at, rounding_from, narrow_in, rounding_in, read_only, admitted, fitted, move_up, tidy, move_down}

unfoldable pub ReadDefs : Type 0
unfolding class_of class_number is_in in_number in_token run same begins all_digits decimal well_formed natural integer mark exactly taken index count value line lengths arrays_line range ranges ranges_line contains sum array_of cells first_of length_of is_declared cell_of range_number range_of in_range scalar_name element_name name item items given_line common_words older_division division own_words words name_of find word_of number_of fill_term fill_terms fill token has binder procedure term arguments above empty_range formula procedure_line procedure_lines sheet read_with
ReadDefs = Unit {0}

unfoldable pub TreeDefs : Type 0
unfolding put fit compute test pair_of element_side side joined verdict binds some_below gave equate compared bounded sons rounds enquire done_inside grow tree_of
TreeDefs = Unit {0}

unfoldable pub RunDefs : Type 0
unfolding ◌then◌ each inside visits digits printℕ printℤ scalar_names element_names array_names cell_names valued block_of head_lines cell_lines block_lines label_text lines_text block_text listing_text block arrive visit scan start root_of visits_of run_of call_with closing printed box
RunDefs = Unit {0}

unfoldable pub MoveDefs : Type 0
unfolding digits printℕ printℤ scalar_names element_names array_names cell_names label_text led parted op_text rel_text formula_word_text term_word_text word_text term_words argument_words formula_words ranges_text item_text procedure_text procedures_text head_text text_in is_everything narrow_at rounds_down is_rounding rounding_at rounding_from narrow_in rounding_in read_only admitted fitted has_empty any_empty has_empty_range dropped numbered tokens_before tidied_procedures tidied move_up tidy move_down
MoveDefs = Unit {0}
