mod Seating
