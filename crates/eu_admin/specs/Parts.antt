-- What the pages have in common
use Rattle.std.specs.Prelude.{ℕ, List, ◌++◌, codes}
use Rattle.std.specs.Fmt.{decimal}
use Rattle.eu_admin.specs.Markup.{escaped}

-- how they look
unfoldable pub style : List ℕ
style = codes ":root{color-scheme:light dark;font-family:system-ui,sans-serif;line-height:1.4}body{max-width:60rem;margin:2rem auto;padding:0 1rem}table{border-collapse:collapse;margin-bottom:1rem}th,td{padding:.2rem 1rem .2rem 0;text-align:left;border-bottom:1px solid #8886}td{white-space:nowrap}meter{width:100%;height:1.2rem}.banner{padding:.6rem 1rem;border-left:.4rem solid #888}.fine{border-color:#2a7}.held{border-color:#d80}.off{border-color:#58f}"

unfoldable pub before_title : List ℕ
before_title = codes "<!DOCTYPE html>\n<html lang=\"en\">\n<head>\n<meta charset=\"utf-8\">\n<meta name=\"viewport\" content=\"width=device-width, initial-scale=1\">\n<title>"

unfoldable pub heading : List ℕ → List ℕ
heading title = codes "</style>\n</head>\n<body>\n<h1>" ++ (escaped title ++ codes "</h1>\n")

-- the front of a page of this title, up to its heading
unfoldable pub head : List ℕ → List ℕ
head title = before_title ++ (escaped title ++ (codes "</title>\n<style>" ++ (style ++ heading title)))

unfoldable pub page_end : List ℕ
page_end = codes "</body>\n</html>\n"

-- a section is a heading and a table
unfoldable pub section : List ℕ → List ℕ
section heading = codes "<h2>" ++ (heading ++ codes "</h2>\n<table>\n")

unfoldable pub table_end : List ℕ
table_end = codes "</table>\n"

-- a row of it: what is counted, and how many
unfoldable pub row : List ℕ → ℕ → List ℕ
row label n = codes "<tr><th scope=\"row\">" ++ (label ++ (codes "</th><td>" ++ (decimal n ++ codes "</td></tr>\n")))
