-- The routes as the code names them. Assumes nothing.
use Rattle.paper.specs.Net.{Route, input-to-output, output-to-input, mark-guided}
use Rattle.routes.specs.declared.route.Route as code
use Rattle.routes.specs.declared.route.Route.TheVariants.{InputToOutput, OutputToInput, MarkGuided}

abbrev pub route_meant : code.Route → Route
route_meant InputToOutput = input-to-output
route_meant OutputToInput = output-to-input
route_meant MarkGuided = mark-guided
