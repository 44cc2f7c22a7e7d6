mod CalendarLemmas
mod TextLemmas
mod Rows
